pub mod ByteBits
pub mod Packed
pub mod Pieces
pub mod WordBits
pub mod Words
