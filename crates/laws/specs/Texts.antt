-- A text's bytes, so that a definition can quote what is printed. For texts of ASCII.
-- Assumes nothing.
use Rattle.std.specs.Prelude.{ℕ, List, [], ◌∷◌}
use Prim.Native.Char.{code}
use Prim.Native.String.{String, [] as none, ◌∷◌ as char-then}

unfoldable pub bytes : String → List ℕ
bytes none = []
bytes (char-then c s) = code c ∷ bytes s
