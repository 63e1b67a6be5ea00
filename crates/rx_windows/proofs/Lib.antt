pub mod RankLaws
pub mod WindowLaws
pub mod KeyLemmas
pub mod RankLemmas
pub mod WorkedWindows
