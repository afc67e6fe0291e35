pub mod Leads
pub mod Reads
pub mod Stands
pub mod StatementLeads
pub mod Answers
pub mod Ends
pub mod Views
