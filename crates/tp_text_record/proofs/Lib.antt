pub mod Splitting
pub mod AnswerLaws
pub mod DidLaws
pub mod Pieces
pub mod EntryTexts
pub mod EntryLaws
pub mod PoolTexts
pub mod RecordLines
pub mod BodyLines
pub mod Short
pub mod FirstWrong
pub mod LinesRead
pub mod WrittenText
mod TellDid
mod OneText
mod Forms
pub mod Written
pub mod Flawed
