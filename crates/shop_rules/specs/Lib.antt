pub mod Days
pub mod Leaves
pub mod Conditions
pub mod Reading
pub mod Ranking
pub mod RankOrder
