-- Laws that the proofs of the code cite, and over the contracts demand 3, the one answer of a board and an event, Leg facilities, Informs and a console of the old kind.
pub mod StepLaws
pub mod CallHistory
pub mod OneAnswer
pub mod PassedOn
pub mod Informed
pub mod OldConsole
pub mod AlikeButForExecute
