-- What is answered of lent rows is what the board answers.
pub mod Agreement
