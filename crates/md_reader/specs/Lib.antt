-- Endings of names: _step what a form of the line does to what is known of it; _of what a word names, or what a symbol or a state has;
-- _at what stands at a number, or comes at a stage; _from goes on from a number. See docs/READING.md.
pub mod Patterns
pub mod Symbols
pub mod Forms
pub mod RuleForms
pub mod Restrictions
pub mod Rows
pub mod State
pub mod HeadSteps
pub mod RuleSteps
pub mod Steps
pub mod Reads
pub mod View
pub mod Valid
pub mod Fine
pub mod Telling
pub mod Desc
pub mod First
