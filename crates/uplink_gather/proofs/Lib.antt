pub mod GatheringLaws
pub mod HearingLaws
pub mod IndexLemmas
pub mod UnclosedLemmas
pub mod KeptLemmas
pub mod NumberedLemmas
pub mod NewestLemmas
pub mod CallLemmas
