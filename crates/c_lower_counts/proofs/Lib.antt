-- Endings of names: _by goes by the cases of a part that it is given; _step what one item of the code does; _of what a tree, a function
-- or a forest has; _is what a step, a value or an operator comes to; _at what holds or is done at an item, a number, a level or a state.
-- See docs/READING.md.
pub mod Leads
pub mod Carried
pub mod Ahead
pub mod Steps
pub mod Doing
pub mod Placing
pub mod Filling
pub mod Storing
pub mod Assigning
pub mod Calling
pub mod Entering
pub mod Conditions
pub mod Expressions
pub mod Constants
pub mod Locals
pub mod Landing
pub mod Statements
pub mod Loops
pub mod Rows
pub mod Functions
pub mod Law
