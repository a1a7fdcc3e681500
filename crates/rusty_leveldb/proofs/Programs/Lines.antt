-- Lines: what the reader's parts answer, put together.
use Rattle.std.proofs.Common.{◌≡◌, ◌≢◌, ◌<◌, ◌+◌, ◌==◌, ℕ, zero, suc, Bool, true, false, not, List, [], ◌∷◌, ◌++◌, length, drop, slice_index_or, Option, None, Some, ◌⊎◌, inl, inr, Bor, refl, sym, ap, subst, ◌∙◌, arith, append-nil, append_assoc, length-append, codes}
use Rattle.std.specs.Prelude.{Contains, MatchOption, All}
use Rattle.std.proofs.lemmas.List.{append_cancel_left, flat_map_more}
use Rattle.std.proofs.lemmas.List.Elements.{All-head, All-tail, Contains-append_cases}
use Rattle.hex.specs.Hex.{is_hex_digit, IsBytes}
use Rattle.std.specs.List.{list_all}
use Rattle.std.specs.Str.Parse.{AllDigits}
use Rattle.std.proofs.lemmas.Str.Parse.{digit_from_value}
use Rattle.std.proofs.lemmas.List.Sums.{AllPass-from_list_all}
use Rattle.rusty_leveldb.specs.declared.shell.commands.Command.{Command}
use Rattle.rusty_leveldb.specs.declared.shell.commands.Command.TheVariants as command
use Rattle.rusty_leveldb.specs.declared.shell.commands.Item.{Item}
use Rattle.rusty_leveldb.specs.declared.shell.commands.Item.TheVariants as item
use Rattle.leveldb_iter.specs.declared.moves.Move.{Move}
use Rattle.leveldb_iter.specs.declared.moves.Move.TheVariants as move
use Rattle.leveldb_base.specs.Names.{IsNumber}
use Rattle.rusty_leveldb.specs.Programs.Language.{hex_word, item_word, sync_word, move_word, words_text, IsViewWord, IsLine, AreLines, HasBytes, ItemHasBytes, MoveHasBytes, IsNoLine, IsScript, IsBadLine}
use Rattle.rusty_leveldb.specs.Programs.Readings.{IsWordReading, IsPair, IsPairReading, IsItemReading, IsItems, IsItemsReading, IsNumberReading, IsViewReading, IsMoveReading, rest_text, IsMoves, IsMovesReading}
use Rattle.rusty_leveldb.proofs.Programs.Words.{tail_of, has_middle, same_front, not_single, no_separator}

-- lists that begin with two numbers aren't one
pub other_heads : (x y : ℕ) (xs ys : List ℕ) → (x ≡ y → ⊥) → x ∷ xs ≡ y ∷ ys → ⊥
other_heads x y xs ys other e = other (ap (λ (all : List ℕ). slice_index_or all 0 0) e)

-- ---- two words

-- a text that isn't parted is no two words
pub not_parted : (separator : ℕ) (words : List ℕ) → (Contains words separator → ⊥) → IsPairReading separator words None
not_parted separator words apart left right is = apart (has_middle separator words (hex_word left) (hex_word right) is.2)

-- the two words of a parted text
pub pair_parts : (separator : ℕ) (words front back left right : List ℕ) → separator ≢ 46 → is_hex_digit separator ≡ false
    → (Contains front separator → ⊥) → words ≡ front ++ separator ∷ back → IsPair separator words left right
    → (front ≡ hex_word left) × (back ≡ hex_word right)
pair_parts separator words front back left right no_dot no_digit apart parted is =
    same_front separator front (hex_word left) back (hex_word right) apart (no_separator separator left is.0 no_dot no_digit) (sym parted ∙ is.2)

-- ---- commands

pub no_put : (words : List ℕ) → IsPairReading 32 words None → IsNoLine (codes "put " ++ words)
no_put words none (command.Put key value) bytes e =
    none key.items value.items (
      bytes.0,
      bytes.1,
      append_cancel_left (codes "put ") words ((hex_word key.items ++ codes " ") ++ hex_word value.items) e ∙ append_assoc (hex_word key.items) (codes " ") (hex_word value.items),
    )
no_put words none (command.Delete key) bytes e = other_heads 112 100 _ _ (λ h. omega (arith, h)) e
no_put words none (command.Write sync items) bytes e = other_heads 112 119 _ _ (λ h. omega (arith, h)) e
no_put words none (command.Get key) bytes e = other_heads 112 103 _ _ (λ h. omega (arith, h)) e
no_put words none command.Snap bytes e = other_heads 112 115 _ _ (λ h. omega (arith, h)) e
no_put words none (command.GetAt number key) bytes e = other_heads 112 103 _ _ (λ h. omega (arith, h)) e.2
no_put words none (command.Release number) bytes e = other_heads 112 114 _ _ (λ h. omega (arith, h)) e.2
no_put words none (command.Walk at moves) bytes e = other_heads 112 119 _ _ (λ h. omega (arith, h)) e.2
no_put words none (command.Compact from to) bytes e = other_heads 112 99 _ _ (λ h. omega (arith, h)) e
no_put words none command.Flush bytes e = other_heads 112 102 _ _ (λ h. omega (arith, h)) e
no_put words none command.Close bytes e = other_heads 112 99 _ _ (λ h. omega (arith, h)) e

pub no_delete : (word : List ℕ) → IsWordReading word None → IsNoLine (codes "del " ++ word)
no_delete word none (command.Put key value) bytes e = other_heads 100 112 _ _ (λ h. omega (arith, h)) e
no_delete word none (command.Delete key) bytes e = none key.items (bytes, append_cancel_left (codes "del ") word (hex_word key.items) e)
no_delete word none (command.Write sync items) bytes e = other_heads 100 119 _ _ (λ h. omega (arith, h)) e
no_delete word none (command.Get key) bytes e = other_heads 100 103 _ _ (λ h. omega (arith, h)) e
no_delete word none command.Snap bytes e = other_heads 100 115 _ _ (λ h. omega (arith, h)) e
no_delete word none (command.GetAt number key) bytes e = other_heads 100 103 _ _ (λ h. omega (arith, h)) e.2
no_delete word none (command.Release number) bytes e = other_heads 100 114 _ _ (λ h. omega (arith, h)) e.2
no_delete word none (command.Walk at moves) bytes e = other_heads 100 119 _ _ (λ h. omega (arith, h)) e.2
no_delete word none (command.Compact from to) bytes e = other_heads 100 99 _ _ (λ h. omega (arith, h)) e
no_delete word none command.Flush bytes e = other_heads 100 102 _ _ (λ h. omega (arith, h)) e
no_delete word none command.Close bytes e = other_heads 100 99 _ _ (λ h. omega (arith, h)) e

pub no_get : (word : List ℕ) → IsWordReading word None → IsNoLine (codes "get " ++ word)
no_get word none (command.Put key value) bytes e = other_heads 103 112 _ _ (λ h. omega (arith, h)) e
no_get word none (command.Delete key) bytes e = other_heads 103 100 _ _ (λ h. omega (arith, h)) e
no_get word none (command.Write sync items) bytes e = other_heads 103 119 _ _ (λ h. omega (arith, h)) e
no_get word none (command.Get key) bytes e = none key.items (bytes, append_cancel_left (codes "get ") word (hex_word key.items) e)
no_get word none command.Snap bytes e = other_heads 103 115 _ _ (λ h. omega (arith, h)) e
no_get word none (command.GetAt number key) bytes e = other_heads 32 97 _ _ (λ h. omega (arith, h)) (ap (drop 3) e.2)
no_get word none (command.Release number) bytes e = other_heads 103 114 _ _ (λ h. omega (arith, h)) e.2
no_get word none (command.Walk at moves) bytes e = other_heads 103 119 _ _ (λ h. omega (arith, h)) e.2
no_get word none (command.Compact from to) bytes e = other_heads 103 99 _ _ (λ h. omega (arith, h)) e
no_get word none command.Flush bytes e = other_heads 103 102 _ _ (λ h. omega (arith, h)) e
no_get word none command.Close bytes e = other_heads 103 99 _ _ (λ h. omega (arith, h)) e

-- a line that begins as a look-up in a snapshot is one
only_get_at : (words : List ℕ)
    → ((number : ℕ) (digits key : List ℕ) → IsNumber digits number → IsBytes key → words ≡ digits ++ 32 ∷ hex_word key → ⊥)
    → IsNoLine (codes "getat " ++ words)
only_get_at words none (command.Put key value) bytes e = other_heads 103 112 _ _ (λ h. omega (arith, h)) e
only_get_at words none (command.Delete key) bytes e = other_heads 103 100 _ _ (λ h. omega (arith, h)) e
only_get_at words none (command.Write sync items) bytes e = other_heads 103 119 _ _ (λ h. omega (arith, h)) e
only_get_at words none (command.Get key) bytes e = other_heads 97 32 _ _ (λ h. omega (arith, h)) (ap (drop 3) e)
only_get_at words none command.Snap bytes e = other_heads 103 115 _ _ (λ h. omega (arith, h)) e
only_get_at words none (command.GetAt number key) bytes e =
    none number e.0 key.items e.1 bytes
    (append_cancel_left (codes "getat ") words ((e.0 ++ codes " ") ++ hex_word key.items) e.2 ∙ append_assoc e.0 (codes " ") (hex_word key.items))
only_get_at words none (command.Release number) bytes e = other_heads 103 114 _ _ (λ h. omega (arith, h)) e.2
only_get_at words none (command.Walk at moves) bytes e = other_heads 103 119 _ _ (λ h. omega (arith, h)) e.2
only_get_at words none (command.Compact from to) bytes e = other_heads 103 99 _ _ (λ h. omega (arith, h)) e
only_get_at words none command.Flush bytes e = other_heads 103 102 _ _ (λ h. omega (arith, h)) e
only_get_at words none command.Close bytes e = other_heads 103 99 _ _ (λ h. omega (arith, h)) e

-- digits have no space
digits_no_space : (digits : List ℕ) → AllDigits 10 digits → Contains digits 32 → ⊥
digits_no_space [] all found = let below = found.1 in omega (arith, below)
digits_no_space (digit ∷ digits) all (zero, below, is) = let range = digit_from_value digit all.0 in omega (arith, range, is)
digits_no_space (digit ∷ digits) all (suc k, below, is) = digits_no_space digits all.1 (k, omega (arith, below), is)

number_no_space : (digits : List ℕ) (number : ℕ) → IsNumber digits number → Contains digits 32 → ⊥
number_no_space digits number is found = digits_no_space digits is.digits.1 found

-- a text that isn't parted is no look-up in a snapshot
pub no_get_at_parts : (words : List ℕ) → (Contains words 32 → ⊥) → IsNoLine (codes "getat " ++ words)
no_get_at_parts words apart =
    only_get_at words (λ number digits key is bytes e. apart (has_middle 32 words digits (hex_word key) e))

pub no_get_at_number : (words front back : List ℕ) → (Contains front 32 → ⊥) → words ≡ front ++ 32 ∷ back
    → IsNumberReading front None → IsNoLine (codes "getat " ++ words)
no_get_at_number words front back apart parted none =
    only_get_at words (λ number digits key is bytes e.
    let same = same_front 32 front digits back (hex_word key) apart (number_no_space digits number is) (sym parted ∙ e) in
    let P : List ℕ → Type 0 = λ xs. IsNumber xs number in
    none number (subst P (sym same.0) is))

pub no_get_at_key : (words front back : List ℕ) → (Contains front 32 → ⊥) → words ≡ front ++ 32 ∷ back
    → IsWordReading back None → IsNoLine (codes "getat " ++ words)
no_get_at_key words front back apart parted none =
    only_get_at words (λ number digits key is bytes e.
    let same = same_front 32 front digits back (hex_word key) apart (number_no_space digits number is) (sym parted ∙ e) in
    none key (bytes, same.1))

-- the line of a look-up in a snapshot, by its words
pub get_at_text : (words front back key : List ℕ) → words ≡ front ++ 32 ∷ back → back ≡ hex_word key
    → codes "getat " ++ words ≡ codes "getat " ++ front ++ codes " " ++ hex_word key
get_at_text words front back key parted spelled =
    ap (λ (xs : List ℕ). codes "getat " ++ xs) (parted ∙ ap (λ (xs : List ℕ). front ++ 32 ∷ xs) spelled)
    ∙ sym (append_assoc (codes "getat " ++ front) (codes " ") (hex_word key))

pub no_release : (digits : List ℕ) → IsNumberReading digits None → IsNoLine (codes "release " ++ digits)
no_release digits none (command.Put key value) bytes e = other_heads 114 112 _ _ (λ h. omega (arith, h)) e
no_release digits none (command.Delete key) bytes e = other_heads 114 100 _ _ (λ h. omega (arith, h)) e
no_release digits none (command.Write sync items) bytes e = other_heads 114 119 _ _ (λ h. omega (arith, h)) e
no_release digits none (command.Get key) bytes e = other_heads 114 103 _ _ (λ h. omega (arith, h)) e
no_release digits none command.Snap bytes e = other_heads 114 115 _ _ (λ h. omega (arith, h)) e
no_release digits none (command.GetAt number key) bytes e = other_heads 114 103 _ _ (λ h. omega (arith, h)) e.2
no_release digits none (command.Release number) bytes e =
    let P : List ℕ → Type 0 = λ xs. IsNumber xs number in
    none number (subst P (sym (append_cancel_left (codes "release ") digits e.0 e.2)) e.1)
no_release digits none (command.Walk at moves) bytes e = other_heads 114 119 _ _ (λ h. omega (arith, h)) e.2
no_release digits none (command.Compact from to) bytes e = other_heads 114 99 _ _ (λ h. omega (arith, h)) e
no_release digits none command.Flush bytes e = other_heads 114 102 _ _ (λ h. omega (arith, h)) e
no_release digits none command.Close bytes e = other_heads 114 99 _ _ (λ h. omega (arith, h)) e

pub no_compact : (words : List ℕ) → IsPairReading 32 words None → IsNoLine (codes "compact " ++ words)
no_compact words none (command.Put key value) bytes e = other_heads 99 112 _ _ (λ h. omega (arith, h)) e
no_compact words none (command.Delete key) bytes e = other_heads 99 100 _ _ (λ h. omega (arith, h)) e
no_compact words none (command.Write sync items) bytes e = other_heads 99 119 _ _ (λ h. omega (arith, h)) e
no_compact words none (command.Get key) bytes e = other_heads 99 103 _ _ (λ h. omega (arith, h)) e
no_compact words none command.Snap bytes e = other_heads 99 115 _ _ (λ h. omega (arith, h)) e
no_compact words none (command.GetAt number key) bytes e = other_heads 99 103 _ _ (λ h. omega (arith, h)) e.2
no_compact words none (command.Release number) bytes e = other_heads 99 114 _ _ (λ h. omega (arith, h)) e.2
no_compact words none (command.Walk at moves) bytes e = other_heads 99 119 _ _ (λ h. omega (arith, h)) e.2
no_compact words none (command.Compact from to) bytes e =
    none from.items to.items (
      bytes.0,
      bytes.1,
      append_cancel_left (codes "compact ") words ((hex_word from.items ++ codes " ") ++ hex_word to.items) e ∙ append_assoc (hex_word from.items) (codes " ") (hex_word to.items),
    )
no_compact words none command.Flush bytes e = other_heads 99 102 _ _ (λ h. omega (arith, h)) e
no_compact words none command.Close bytes e = other_heads 111 108 _ _ (λ h. omega (arith, h)) (ap (drop 1) e)

-- a line that begins as a write is a write
only_write : (words : List ℕ) → ((sync : Bool) (items : List Item) → All ItemHasBytes items → words ≡ sync_word sync ++ words_text item_word items → ⊥)
    → IsNoLine (codes "write " ++ words)
only_write words none (command.Put key value) bytes e = other_heads 119 112 _ _ (λ h. omega (arith, h)) e
only_write words none (command.Delete key) bytes e = other_heads 119 100 _ _ (λ h. omega (arith, h)) e
only_write words none (command.Write sync items) bytes e = none sync items.items bytes (append_cancel_left (codes "write ") words (sync_word sync ++ words_text item_word items.items) e)
only_write words none (command.Get key) bytes e = other_heads 119 103 _ _ (λ h. omega (arith, h)) e
only_write words none command.Snap bytes e = other_heads 119 115 _ _ (λ h. omega (arith, h)) e
only_write words none (command.GetAt number key) bytes e = other_heads 119 103 _ _ (λ h. omega (arith, h)) e.2
only_write words none (command.Release number) bytes e = other_heads 119 114 _ _ (λ h. omega (arith, h)) e.2
only_write words none (command.Walk at moves) bytes e = other_heads 114 97 _ _ (λ h. omega (arith, h)) (ap (drop 1) e.2)
only_write words none (command.Compact from to) bytes e = other_heads 119 99 _ _ (λ h. omega (arith, h)) e
only_write words none command.Flush bytes e = other_heads 119 102 _ _ (λ h. omega (arith, h)) e
only_write words none command.Close bytes e = other_heads 119 99 _ _ (λ h. omega (arith, h)) e

pub no_sync : (words : List ℕ) → ((sync : Bool) (text : List ℕ) → words ≢ sync_word sync ++ text) → IsNoLine (codes "write " ++ words)
no_sync words none = only_write words (λ sync items bytes e. none sync (words_text item_word items) e)

-- what comes after the word of a sync
sync_behind : (sync other : Bool) (text rest : List ℕ) → sync_word sync ++ text ≡ sync_word other ++ rest → text ≡ rest
sync_behind false false text rest e = ap tail_of e
sync_behind false true text rest e = ap tail_of e
sync_behind true false text rest e = ap tail_of e
sync_behind true true text rest e = ap tail_of e

pub no_items : (words text : List ℕ) (sync : Bool) → words ≡ sync_word sync ++ text → IsItemsReading text None → IsNoLine (codes "write " ++ words)
no_items words text sync is none =
    only_write words (λ other items bytes e. none items (bytes, sync_behind sync other text (words_text item_word items) (sym is ∙ e)))

-- no text but 0 and 1 is a sync's word
pub no_sync_word : (words : List ℕ) → ((rest : List ℕ) → words ≢ codes "0" ++ rest) → ((rest : List ℕ) → words ≢ codes "1" ++ rest)
    → (sync : Bool) (text : List ℕ) → words ≢ sync_word sync ++ text
no_sync_word words no_0 no_1 false text = no_0 text
no_sync_word words no_0 no_1 true text = no_1 text

-- a line that begins as a walk is a walk
only_walk : (words : List ℕ)
    → ((at : Option ℕ) (view : List ℕ) (moves : List Move) → IsViewWord view at → All MoveHasBytes moves → words ≡ view ++ words_text move_word moves → ⊥)
    → IsNoLine (codes "walk " ++ words)
only_walk words none (command.Put key value) bytes e = other_heads 119 112 _ _ (λ h. omega (arith, h)) e
only_walk words none (command.Delete key) bytes e = other_heads 119 100 _ _ (λ h. omega (arith, h)) e
only_walk words none (command.Write sync items) bytes e = other_heads 97 114 _ _ (λ h. omega (arith, h)) (ap (drop 1) e)
only_walk words none (command.Get key) bytes e = other_heads 119 103 _ _ (λ h. omega (arith, h)) e
only_walk words none command.Snap bytes e = other_heads 119 115 _ _ (λ h. omega (arith, h)) e
only_walk words none (command.GetAt number key) bytes e = other_heads 119 103 _ _ (λ h. omega (arith, h)) e.2
only_walk words none (command.Release number) bytes e = other_heads 119 114 _ _ (λ h. omega (arith, h)) e.2
only_walk words none (command.Walk at moves) bytes e = none at e.0 moves.items e.1 bytes (append_cancel_left (codes "walk ") words (e.0 ++ words_text move_word moves.items) e.2)
only_walk words none (command.Compact from to) bytes e = other_heads 119 99 _ _ (λ h. omega (arith, h)) e
only_walk words none command.Flush bytes e = other_heads 119 102 _ _ (λ h. omega (arith, h)) e
only_walk words none command.Close bytes e = other_heads 119 99 _ _ (λ h. omega (arith, h)) e

-- a line with no command's name
pub no_name : (line : List ℕ) → (line ≢ codes "snap") × (line ≢ codes "flush") × (line ≢ codes "close")
    → ((rest : List ℕ) → line ≢ codes "put " ++ rest)
    → ((rest : List ℕ) → line ≢ codes "del " ++ rest)
    → ((rest : List ℕ) → line ≢ codes "write " ++ rest)
    → ((rest : List ℕ) → line ≢ codes "get " ++ rest)
    → ((rest : List ℕ) → line ≢ codes "getat " ++ rest)
    → ((rest : List ℕ) → line ≢ codes "release " ++ rest)
    → ((rest : List ℕ) → line ≢ codes "compact " ++ rest)
    → ((rest : List ℕ) → line ≢ codes "walk " ++ rest)
    → IsNoLine line
no_name line no_names no_put_line no_delete_line no_write_line no_get_line no_get_at_line no_release_line no_compact_line no_walk_line (command.Put key value) bytes e = no_put_line ((hex_word key.items ++ codes " ") ++ hex_word value.items) e
no_name line no_names no_put_line no_delete_line no_write_line no_get_line no_get_at_line no_release_line no_compact_line no_walk_line (command.Delete key) bytes e = no_delete_line (hex_word key.items) e
no_name line no_names no_put_line no_delete_line no_write_line no_get_line no_get_at_line no_release_line no_compact_line no_walk_line (command.Write sync items) bytes e = no_write_line (sync_word sync ++ words_text item_word items.items) e
no_name line no_names no_put_line no_delete_line no_write_line no_get_line no_get_at_line no_release_line no_compact_line no_walk_line (command.Get key) bytes e = no_get_line (hex_word key.items) e
no_name line no_names no_put_line no_delete_line no_write_line no_get_line no_get_at_line no_release_line no_compact_line no_walk_line command.Snap bytes e = no_names.0 e
no_name line no_names no_put_line no_delete_line no_write_line no_get_line no_get_at_line no_release_line no_compact_line no_walk_line (command.GetAt number key) bytes e = no_get_at_line ((e.0 ++ codes " ") ++ hex_word key.items) e.2
no_name line no_names no_put_line no_delete_line no_write_line no_get_line no_get_at_line no_release_line no_compact_line no_walk_line (command.Release number) bytes e = no_release_line e.0 e.2
no_name line no_names no_put_line no_delete_line no_write_line no_get_line no_get_at_line no_release_line no_compact_line no_walk_line (command.Walk at moves) bytes e = no_walk_line (e.0 ++ words_text move_word moves.items) e.2
no_name line no_names no_put_line no_delete_line no_write_line no_get_line no_get_at_line no_release_line no_compact_line no_walk_line (command.Compact from to) bytes e = no_compact_line ((hex_word from.items ++ codes " ") ++ hex_word to.items) e
no_name line no_names no_put_line no_delete_line no_write_line no_get_line no_get_at_line no_release_line no_compact_line no_walk_line command.Flush bytes e = no_names.1 e
no_name line no_names no_put_line no_delete_line no_write_line no_get_line no_get_at_line no_release_line no_compact_line no_walk_line command.Close bytes e = no_names.2 e

-- ---- changes

pub no_put_item : (words : List ℕ) → IsPairReading 61 words None → IsItemReading (codes "+" ++ words) None
no_put_item words none (item.Put key value) bytes e =
    none key.items value.items (
      bytes.0,
      bytes.1,
      append_cancel_left (codes "+") words ((hex_word key.items ++ codes "=") ++ hex_word value.items) e ∙ append_assoc (hex_word key.items) (codes "=") (hex_word value.items),
    )
no_put_item words none (item.Delete key) bytes e = other_heads 43 45 _ _ (λ h. omega (arith, h)) e

pub no_delete_item : (word : List ℕ) → IsWordReading word None → IsItemReading (codes "-" ++ word) None
no_delete_item word none (item.Put key value) bytes e = other_heads 45 43 _ _ (λ h. omega (arith, h)) e
no_delete_item word none (item.Delete key) bytes e = none key.items (bytes, append_cancel_left (codes "-") word (hex_word key.items) e)

pub no_sign : (word : List ℕ) → ((rest : List ℕ) → word ≢ codes "+" ++ rest) → ((rest : List ℕ) → word ≢ codes "-" ++ rest) → IsItemReading word None
no_sign word no_plus no_minus (item.Put key value) bytes e = no_plus ((hex_word key.items ++ codes "=") ++ hex_word value.items) e
no_sign word no_plus no_minus (item.Delete key) bytes e = no_minus (hex_word key.items) e

-- two words with a byte before and between them
pub pair_text : (head words left right : List ℕ) (separator : ℕ) → words ≡ hex_word left ++ separator ∷ hex_word right
    → head ++ words ≡ ((head ++ hex_word left) ++ separator ∷ []) ++ hex_word right
pair_text head words left right separator is =
    ap (λ (xs : List ℕ). head ++ xs) is ∙ sym (append_assoc head (hex_word left) (separator ∷ hex_word right))
    ∙ sym (append_assoc (head ++ hex_word left) (separator ∷ []) (hex_word right))

-- a change's word has no space
item_no_space : (one : Item) → ItemHasBytes one → Contains (item_word one) 32 → ⊥
item_no_space (item.Put key value) bytes found =
    elim (Contains-append_cases ((codes "+" ++ hex_word key.items) ++ codes "=") (hex_word value.items) 32 found) [
      | inr in_value ↦ no_separator 32 value.items bytes.1 (λ h. omega (arith, h)) refl in_value
      | inl front ↦ elim (Contains-append_cases (codes "+" ++ hex_word key.items) (codes "=") 32 front) [
        | inr equals ↦ not_single 61 32 (λ h. omega (arith, h)) equals
        | inl start ↦ elim (Contains-append_cases (codes "+") (hex_word key.items) 32 start) [
          | inl plus ↦ not_single 43 32 (λ h. omega (arith, h)) plus
          | inr in_key ↦ no_separator 32 key.items bytes.0 (λ h. omega (arith, h)) refl in_key
        ]
      ]
    ]
item_no_space (item.Delete key) bytes found =
    elim (Contains-append_cases (codes "-") (hex_word key.items) 32 found) [
      | inl minus ↦ not_single 45 32 (λ h. omega (arith, h)) minus
      | inr in_key ↦ no_separator 32 key.items bytes (λ h. omega (arith, h)) refl in_key
    ]

-- ---- moves

pub no_view : (word : List ℕ) → word ≢ codes "now" → IsNumberReading word None → IsViewReading word None
no_view word no_now no_number None e = no_now e
no_view word no_now no_number (Some number) is = no_number number is

-- a text that begins with no move's name is none
pub no_move : (word : List ℕ) → word ≢ codes "first" → word ≢ codes "next" → word ≢ codes "prev"
    → ((rest : List ℕ) → word ≢ codes "seek=" ++ rest) → IsMoveReading word None
no_move word no_first no_next no_prev no_seek move.First bytes e = no_first e
no_move word no_first no_next no_prev no_seek move.Next bytes e = no_next e
no_move word no_first no_next no_prev no_seek move.Prev bytes e = no_prev e
no_move word no_first no_next no_prev no_seek (move.Seek key) bytes e = no_seek (hex_word key.items) e

pub no_seek : (word : List ℕ) → IsWordReading word None → IsMoveReading (codes "seek=" ++ word) None
no_seek word none move.First bytes e = other_heads 115 102 _ _ (λ h. omega (arith, h)) e
no_seek word none move.Next bytes e = other_heads 115 110 _ _ (λ h. omega (arith, h)) e
no_seek word none move.Prev bytes e = other_heads 115 112 _ _ (λ h. omega (arith, h)) e
no_seek word none (move.Seek key) bytes e = none key.items (bytes, append_cancel_left (codes "seek=") word (hex_word key.items) e)

-- a text none of whose bytes is a space has none
no_space_in : (text : List ℕ) → list_all (λ byte. not (byte == 32)) text ≡ true → Contains text 32 → ⊥
no_space_in text none found =
    let P : ℕ → Type 0 = λ byte. not (byte == 32) ≡ true in
    let at : not (32 == 32) ≡ true = subst P found.2 (AllPass-from_list_all (λ byte. not (byte == 32)) text none found.0 32 found.1) in
    cc at

-- the word of a view has no space
view_no_space : (at : Option ℕ) (word : List ℕ) → IsViewWord word at → Contains word 32 → ⊥
view_no_space None word is found =
    let P : List ℕ → Type 0 = λ xs. Contains xs 32 in no_space_in (codes "now") refl (subst P is found)
view_no_space (Some number) word is found = number_no_space word number is found

-- a move's word has no space
move_no_space : (one : Move) → MoveHasBytes one → Contains (move_word one) 32 → ⊥
move_no_space move.First bytes found = no_space_in (codes "first") refl found
move_no_space move.Next bytes found = no_space_in (codes "next") refl found
move_no_space move.Prev bytes found = no_space_in (codes "prev") refl found
move_no_space (move.Seek key) bytes found =
    elim (Contains-append_cases (codes "seek=") (hex_word key.items) 32 found) [
      | inl name ↦ no_space_in (codes "seek=") refl name
      | inr in_key ↦ no_separator 32 key.items bytes (λ h. omega (arith, h)) refl in_key
    ]

-- ---- words with a space before each

-- a text is its first word and what is left
abbrev pub IsParted : List ℕ → List ℕ → Option (Bor (List ℕ)) → Type 0
IsParted words word more = MatchOption more (word ≡ words) (λ after. words ≡ word ++ 32 ∷ after.now)

pub parted_text : (words word : List ℕ) (more : Option (Bor (List ℕ))) → IsParted words word more → words ≡ word ++ rest_text more
parted_text words word None parted = sym parted ∙ sym (append-nil word)
parted_text words word (Some after) parted = parted

-- what is left is shorter
pub rest_shorter : (words word : List ℕ) (more : Option (Bor (List ℕ))) → IsParted words word more → length (rest_text more) < length (32 ∷ words)
rest_shorter words word more parted =
    let e = ap length (parted_text words word more parted) in
    let l = length-append word (rest_text more) in omega (arith, e, l)

-- the first word of a text, which words with a space before each follow
pub first_word : {T : Type 0} (spell : T → List ℕ) (words word front : List ℕ) (more : Option (Bor (List ℕ))) (others : List T)
    → (Contains word 32 → ⊥) → (Contains front 32 → ⊥) → IsParted words word more
    → words ≡ front ++ words_text spell others → (word ≡ front) × (rest_text more ≡ words_text spell others)
first_word spell words word front None [] apart clear parted is = (parted ∙ is ∙ append-nil front, refl)
first_word spell words word front None (next ∷ others) apart clear parted is =
    absurd (apart (has_middle 32 word front (spell next ++ words_text spell others) (parted ∙ is)))
first_word spell words word front (Some after) [] apart clear parted is =
    absurd (clear (has_middle 32 front word after.now (sym (append-nil front) ∙ sym is ∙ parted)))
first_word spell words word front (Some after) (next ∷ others) apart clear parted is =
    let same = same_front 32 word front after.now (spell next ++ words_text spell others) apart clear (sym parted ∙ is) in
    (same.0, ap (λ (xs : List ℕ). 32 ∷ xs) same.1)

-- words, past one more
pub words_more : {T : Type 0} (spell : T → List ℕ) (text words word : List ℕ) (more : Option (Bor (List ℕ))) (before : List T) (one : T)
    → text ≡ words_text spell before ++ 32 ∷ words → IsParted words word more → word ≡ spell one
    → text ≡ words_text spell (before ++ one ∷ []) ++ rest_text more
words_more {T = T} spell text words word more before one is parted spelled =
    is ∙ ap (λ (xs : List ℕ). words_text spell before ++ 32 ∷ xs) (parted_text words word more parted ∙ ap (λ (xs : List ℕ). xs ++ rest_text more) spelled)
    ∙ sym (append_assoc (words_text spell before) (codes " " ++ spell one) (rest_text more))
    ∙ ap (λ (xs : List ℕ). xs ++ rest_text more) (flat_map_more (λ (i : T). codes " " ++ spell i) [] before one)

-- the first of what words encode, and the others
pub record FirstOf {T : Type 0} (spell : T → List ℕ) (HasBytes : T → Type 0) (word rest : List ℕ) : Type 0 where
  pub one : T
  pub others : List T
  pub bytes : HasBytes one
  pub word_is : word ≡ spell one
  pub all : All HasBytes others
  pub rest_is : rest ≡ words_text spell others

module _ {T : Type 0} (spell : T → List ℕ) (HasBytes : T → Type 0) (clear : (one : T) → HasBytes one → Contains (spell one) 32 → ⊥) where
  first_of : (words word : List ℕ) (more : Option (Bor (List ℕ))) (all : List T) → (Contains word 32 → ⊥) → IsParted words word more
      → All HasBytes all → 32 ∷ words ≡ words_text spell all → FirstOf spell HasBytes word (rest_text more)
  first_of words word more [] apart parted bytes is = let e = ap length is in absurd (omega (arith, e))
  first_of words word more (one ∷ others) apart parted bytes is =
      let head = All-head HasBytes one others bytes in
      let same = first_word spell words word (spell one) more others apart (clear one head) parted (ap tail_of is) in
      record { one = one; others = others; bytes = head; word_is = same.0; all = All-tail HasBytes one others bytes; rest_is = same.1 }

pub first_item : (words word : List ℕ) (more : Option (Bor (List ℕ))) (items : List Item) → (Contains word 32 → ⊥) → IsParted words word more
    → IsItems (32 ∷ words) items → FirstOf item_word ItemHasBytes word (rest_text more)
first_item words word more items apart parted is = first_of item_word ItemHasBytes item_no_space words word more items apart parted is.0 is.1

pub first_move : (words word : List ℕ) (more : Option (Bor (List ℕ))) (moves : List Move) → (Contains word 32 → ⊥) → IsParted words word more
    → IsMoves (32 ∷ words) moves → FirstOf move_word MoveHasBytes word (rest_text more)
first_move words word more moves apart parted is = first_of move_word MoveHasBytes move_no_space words word more moves apart parted is.0 is.1

-- a text of changes is empty or begins with a space
pub no_space_first : (text : List ℕ) → 0 < length text → ((rest : List ℕ) → text ≢ codes " " ++ rest) → IsItemsReading text None
no_space_first text some none [] is = let e = ap length is.1 in omega (arith, some, e)
no_space_first text some none (one ∷ items) is = none (item_word one ++ words_text item_word items) is.1

-- ---- walks

pub no_walk_view : (words front : List ℕ) (more : Option (Bor (List ℕ))) → (Contains front 32 → ⊥) → IsParted words front more
    → IsViewReading front None → IsNoLine (codes "walk " ++ words)
no_walk_view words front more apart parted none =
    only_walk words (λ at view moves is bytes e.
    let same = first_word move_word words front view more moves apart (view_no_space at view is) parted e in
    let P : List ℕ → Type 0 = λ xs. IsViewWord xs at in
    none at (subst P (sym same.0) is))

pub no_walk_moves : (words front : List ℕ) (more : Option (Bor (List ℕ))) → (Contains front 32 → ⊥) → IsParted words front more
    → IsMovesReading (rest_text more) None → IsNoLine (codes "walk " ++ words)
no_walk_moves words front more apart parted none =
    only_walk words (λ at view moves is bytes e.
    none moves (bytes, (first_word move_word words front view more moves apart (view_no_space at view is) parted e).1))

-- the line of a walk, by its words
pub walk_text : (words front : List ℕ) (more : Option (Bor (List ℕ))) (moves : List Move) → IsParted words front more
    → rest_text more ≡ words_text move_word moves → codes "walk " ++ words ≡ codes "walk " ++ front ++ words_text move_word moves
walk_text words front more moves parted spelled =
    ap (λ (xs : List ℕ). codes "walk " ++ xs) (parted_text words front more parted ∙ ap (λ (xs : List ℕ). front ++ xs) spelled)

-- ---- texts

-- the text is these commands' lines and a rest; or its last newline was missing
abbrev pub IsRead : List ℕ → List Command → List ℕ → Type 0
IsRead text commands rest = ((lines : List ℕ) × AreLines lines commands × (text ≡ lines ++ rest))
    ⊎ ((rest ≡ []) × (commands ≢ []) × AreLines (text ++ 10 ∷ []) commands)

-- the rest is a line and what comes after it
abbrev pub IsCut : List ℕ → List ℕ → List ℕ → Type 0
IsCut rest line after = (rest ≡ line ++ 10 ∷ after) ⊎ ((rest ≡ line) × (after ≡ []))

-- lines, past one more
lines_more : (lines line : List ℕ) (commands : List Command) (one : Command) → AreLines lines commands → IsLine line one
    → AreLines (lines ++ (line ++ 10 ∷ [])) (commands ++ one ∷ [])
lines_more lines line [] one none is =
    (line, [], is, ap (λ (xs : List ℕ). xs ++ (line ++ 10 ∷ [])) none, refl)
lines_more lines line (first ∷ commands) one are is = (
  are.0,
  are.1 ++ (line ++ 10 ∷ []),
  are.2,
  ap (λ (xs : List ℕ). xs ++ (line ++ 10 ∷ [])) are.3 ∙ append_assoc are.0 (10 ∷ are.1) (line ++ 10 ∷ []),
  lines_more are.1 line commands one are.4 is,
)

not_none : (commands : List Command) (one : Command) → commands ++ one ∷ [] ≢ []
not_none commands one e = let h = ap length e in let l = length-append commands (one ∷ []) in omega (arith, h, l)

pub read_more : (text rest line after : List ℕ) (commands : List Command) (one : Command) → IsRead text commands rest → 0 < length rest → IsCut rest line after
    → IsLine line one → IsRead text (commands ++ one ∷ []) after
read_more text rest line after commands one (inr ended) some cut is = let h = ap length ended.0 in absurd (omega (arith, some, h))
read_more text rest line after commands one (inl read) some (inl cut) is =
    inl (
      read.0 ++ (line ++ 10 ∷ []),
      lines_more read.0 line commands one read.1 is,
      read.2 ∙ ap (λ (xs : List ℕ). read.0 ++ xs) (cut ∙ sym (append_assoc line (10 ∷ []) after)) ∙ sym (append_assoc read.0 (line ++ 10 ∷ []) after),
    )
read_more text rest line after commands one (inl read) some (inr cut) is =
    let P : List ℕ → Type 0 = λ xs. AreLines xs (commands ++ one ∷ []) in
    inr (
      cut.1,
      not_none commands one,
      subst P
          (sym (ap (λ (xs : List ℕ). xs ++ 10 ∷ []) (read.2 ∙ ap (λ (xs : List ℕ). read.0 ++ xs) cut.0) ∙ append_assoc read.0 line (10 ∷ [])))
          (lines_more read.0 line commands one read.1 is),
    )

empty_is : (xs : List ℕ) → length xs ≡ 0 → xs ≡ []
empty_is [] none = refl
empty_is (x ∷ xs) none = absurd (omega (arith, none))

pub read_all : (text rest : List ℕ) (commands : List Command) → All HasBytes commands → IsRead text commands rest → length rest ≡ 0 → IsScript text commands
read_all text rest commands bytes (inl read) none =
    let P : List ℕ → Type 0 = λ xs. AreLines xs commands in
    (bytes, inl (subst P (sym (read.2 ∙ ap (λ (xs : List ℕ). read.0 ++ xs) (empty_is rest none) ∙ append-nil read.0)) read.1))
read_all text rest commands bytes (inr ended) none = (bytes, inr (ended.1, ended.2))

bad_text : (text lines rest line after : List ℕ) → text ≡ lines ++ rest → 0 < length rest → IsCut rest line after
    → (text ≡ lines ++ line ++ 10 ∷ after) ⊎ ((text ≡ lines ++ line) × (line ≢ []))
bad_text text lines rest line after is some (inl cut) =
    inl (is ∙ ap (λ (xs : List ℕ). lines ++ xs) cut ∙ sym (append_assoc lines line (10 ∷ after)))
bad_text text lines rest line after is some (inr cut) =
    inr (is ∙ ap (λ (xs : List ℕ). lines ++ xs) cut.0, λ e. let h = ap length (cut.0 ∙ e) in omega (arith, some, h))

pub bad_line : (text rest line after : List ℕ) (commands : List Command) (number : ℕ) → All HasBytes commands → IsRead text commands rest → 0 < length rest
    → IsCut rest line after → (Contains line 10 → ⊥) → IsNoLine line → number ≡ length commands + 1 → IsBadLine text number
bad_line text rest line after commands number bytes (inr ended) some cut one_line none counted = let h = ap length ended.0 in absurd (omega (arith, some, h))
bad_line text rest line after commands number bytes (inl read) some cut one_line none counted =
    record {
      before = commands;
      lines = read.0;
      line = line;
      rest = after;
      bytes = bytes;
      number_is = counted;
      lines_are = read.1;
      text_is = bad_text text read.0 rest line after read.2 some cut;
      one_line = one_line;
      none = none;
    }

-- the text after a line is shorter
pub behind_shorter : (rest line after : List ℕ) → 0 < length rest → IsCut rest line after → length after < length rest
behind_shorter rest line after some (inl cut) = let e = ap length cut in let l = length-append line (10 ∷ after) in omega (arith, e, l)
behind_shorter rest line after some (inr cut) = let e = ap length cut.1 in omega (arith, some, e)
