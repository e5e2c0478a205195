pub mod Dues
pub mod Parking
pub mod Same
