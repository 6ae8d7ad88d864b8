-- The pair rule as a table.
pub mod Situations
pub mod Tables
