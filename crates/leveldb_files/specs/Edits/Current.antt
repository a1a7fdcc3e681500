-- What the file `CURRENT` holds: the name of the manifest that a store begins with.
use Rattle.std.specs.Prelude.{◌≡◌, ℕ, List, [], ◌∷◌, ◌++◌}
use Rattle.leveldb_base.specs.Names.{IsFileName, file_name}
use Rattle.leveldb_base.specs.declared.types.FileType.TheVariants.{Descriptor}

-- the text is the name of a manifest with this number, and a newline
abbrev pub IsCurrentText : List ℕ → List ℕ → ℕ → Type 0
IsCurrentText text name n = IsFileName name n Descriptor × (text ≡ name ++ 10 ∷ [])

-- the text that is written for the manifest of a number
abbrev pub current_text : ℕ → List ℕ
current_text n = file_name Descriptor n ++ 10 ∷ []
