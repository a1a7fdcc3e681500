-- What each part of the reader of commands returns: what a text encodes, or that it is no encoding.
use Rattle.std.specs.Prelude.{◌≡◌, ℕ, List, [], ◌∷◌, ◌++◌, Option, None, Some, All, Vec}
use Rattle.std.specs.Borrow.{Bor}
use Rattle.std.specs.declared.alloc.Global.{Global}
use Rattle.hex.specs.Hex.{IsBytes}
use Rattle.rusty_leveldb.specs.declared.shell.commands.Command.{Command}
use Rattle.rusty_leveldb.specs.declared.shell.commands.Item.{Item}
use Rattle.leveldb_iter.specs.declared.moves.Move.{Move}
use Rattle.leveldb_base.specs.Names.{IsNumber}
use Rattle.rusty_leveldb.specs.Programs.Language.{hex_word, item_word, move_word, words_text, IsViewWord, IsLine, HasBytes, ItemHasBytes, MoveHasBytes, IsNoLine}

-- the bytes that a word encodes
abbrev pub IsHexWord : List ℕ → List ℕ → Type 0
IsHexWord word bytes = IsBytes bytes × (word ≡ hex_word bytes)

-- what a word was read as
abbrev pub IsWordReading : List ℕ → Option (Vec ℕ Global) → Type 0
IsWordReading word None = (bytes : List ℕ) → IsHexWord word bytes → ⊥
IsWordReading word (Some bytes) = IsHexWord word bytes.items

-- two words, parted by a byte
abbrev pub IsPair : ℕ → List ℕ → List ℕ → List ℕ → Type 0
IsPair separator words left right = IsBytes left × IsBytes right
    × (words ≡ hex_word left ++ separator ∷ hex_word right)

-- what two words were read as
abbrev pub IsPairReading : ℕ → List ℕ → Option (Vec ℕ Global × Vec ℕ Global) → Type 0
IsPairReading separator words None = (left right : List ℕ) → IsPair separator words left right → ⊥
IsPairReading separator words (Some pair) = IsPair separator words pair.0.items pair.1.items

-- what a change's word was read as
abbrev pub IsItemReading : List ℕ → Option Item → Type 0
IsItemReading word None = (one : Item) → ItemHasBytes one → word ≡ item_word one → ⊥
IsItemReading word (Some one) = ItemHasBytes one × (word ≡ item_word one)

-- the changes that a text encodes
abbrev pub IsItems : List ℕ → List Item → Type 0
IsItems text items = All ItemHasBytes items × (text ≡ words_text item_word items)

-- what changes' words were read as
abbrev pub IsItemsReading : List ℕ → Option (Vec Item Global) → Type 0
IsItemsReading text None = (items : List Item) → IsItems text items → ⊥
IsItemsReading text (Some items) = IsItems text items.items

-- what decimal digits were read as
abbrev pub IsNumberReading : List ℕ → Option ℕ → Type 0
IsNumberReading digits None = (number : ℕ) → IsNumber digits number → ⊥
IsNumberReading digits (Some number) = IsNumber digits number

-- what the word of a view was read as
abbrev pub IsViewReading : List ℕ → Option (Option ℕ) → Type 0
IsViewReading word None = (at : Option ℕ) → IsViewWord word at → ⊥
IsViewReading word (Some at) = IsViewWord word at

-- what a move's word was read as
abbrev pub IsMoveReading : List ℕ → Option Move → Type 0
IsMoveReading word None = (one : Move) → MoveHasBytes one → word ≡ move_word one → ⊥
IsMoveReading word (Some one) = MoveHasBytes one × (word ≡ move_word one)

-- what follows a word: nothing, or a space and more words
abbrev pub rest_text : Option (Bor (List ℕ)) → List ℕ
rest_text None = []
rest_text (Some words) = 32 ∷ words.now

-- the moves that a text encodes
abbrev pub IsMoves : List ℕ → List Move → Type 0
IsMoves text moves = All MoveHasBytes moves × (text ≡ words_text move_word moves)

-- what moves' words were read as
abbrev pub IsMovesReading : List ℕ → Option (Vec Move Global) → Type 0
IsMovesReading text None = (moves : List Move) → IsMoves text moves → ⊥
IsMovesReading text (Some moves) = IsMoves text moves.items

-- what a line was read as
abbrev pub IsLineReading : List ℕ → Option Command → Type 0
IsLineReading line None = IsNoLine line
IsLineReading line (Some one) = HasBytes one × IsLine line one
