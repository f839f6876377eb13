-- The number of the exported functions' interface, which each change of a signature raises. Definitions only.
use Rattle.std.specs.Prelude.{ℕ}

abbrev pub abi_version : ℕ
abi_version = 5
