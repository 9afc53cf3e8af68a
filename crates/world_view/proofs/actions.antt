-- The actions of which an event is made: what each does from memories that are beside, and what it keeps.
pub mod TableLaws
pub mod ActLaws
pub mod InstructionLaws
