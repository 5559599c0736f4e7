mod Worked
mod Sizes
mod SignLemmas
mod Mapped
mod RoomLemmas
mod PlaceLemmas
mod QuickLemmas
mod Cases
pub mod PairLemmas
pub mod SetLemmas
pub mod TypeLemmas
