mod Appended
mod Counted
mod Placed
