-- A law of what a change makes of rows.
pub mod Standings
