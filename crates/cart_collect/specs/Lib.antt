pub mod Ranks
pub mod RankOrder
pub mod Finding
pub mod Looking
pub mod Collected
pub mod Ordered
