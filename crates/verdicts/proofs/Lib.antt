-- Laws of situations and of tables over them.
pub mod SituationLaws
pub mod TableLaws
pub mod PairTable
