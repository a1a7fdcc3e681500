-- The footer, a table's last bytes, which say where its metaindex and its index are.
use Rattle.std.specs.Prelude.{◌≡◌, ℕ, ◌-◌, List, [], ◌∷◌, ◌++◌, length, replicate, Option, None, Some}
use Rattle.leveldb_base.specs.BlockHandle.{Handle, HandleFits, handle_bytes}
use Rattle.leveldb_table.specs.declared.table_builder.footer.Footer.{Footer}

-- the bytes that end each table
abbrev pub magic : List ℕ
magic = 0x57 ∷ 0xfb ∷ 0x80 ∷ 0x8b ∷ 0x24 ∷ 0x75 ∷ 0x47 ∷ 0xdb ∷ []

-- bytes, and zeros after them to `count` in all
abbrev pub filled : ℕ → List ℕ → List ℕ
filled count bytes = bytes ++ replicate (count - length bytes) 0

-- the handles of the metaindex and of the index, zeros to 40 bytes, and the magic bytes
unfoldable pub footer_bytes : Handle → Handle → List ℕ
footer_bytes meta_index index = filled 40 (handle_bytes meta_index ++ handle_bytes index) ++ magic

-- what reading bytes as a footer gives: the two handles that they encode, or nothing where they
-- are no footer
abbrev pub ReadsFooter : List ℕ → Option Footer → Type 0
ReadsFooter bytes (Some footer) =
    HandleFits footer.meta_index × HandleFits footer.index
    × (bytes ≡ footer_bytes footer.meta_index footer.index)
ReadsFooter bytes None =
    (meta_index index : Handle) → HandleFits meta_index → HandleFits index
    → bytes ≡ footer_bytes meta_index index → ⊥
