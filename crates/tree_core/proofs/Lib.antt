-- Endings of names: _step that one element more keeps it; _of what the answer of a test or a count says, or what stands behind an item;
-- _is what this is, or what a test that is true says. See docs/READING.md.
pub mod Showing
pub mod Planting
pub mod Walking
pub mod Ordering_of_calls
pub mod Windows
pub mod Lists_of_labels
pub mod Elements
pub mod Lists_of_links
pub mod Validity
pub mod Law
pub mod Apart
pub mod Naming
pub mod Sorts
mod Listing
