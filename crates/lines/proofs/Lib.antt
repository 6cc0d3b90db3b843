-- a number's digits, a field, a line, a line at a place of a text
pub mod Decimal
pub mod Field
pub mod OneLine
pub mod Plain
pub mod Begun
pub mod Placing
