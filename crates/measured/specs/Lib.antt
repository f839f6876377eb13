-- The pieces that docs/SCOPE.md gives values for, in one list.
pub mod Piece
pub mod Lent
pub mod Pieces
