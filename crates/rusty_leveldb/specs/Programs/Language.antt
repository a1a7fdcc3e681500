-- The command language of the program: one command a line. Each has one encoding, but for zeros
-- before a snapshot's number.
use Rattle.std.specs.Prelude.{◌≡◌, ◌≢◌, ◌⊎◌, ◌+◌, ℕ, Bool, true, false, List, [], ◌∷◌, ◌++◌, length, flat_map, codes, decimal, Option, None, Some, All, Contains, Result, OnOk}
use Rattle.std.specs.declared.alloc.AllocError.{AllocError}
use Rattle.hex.specs.Hex.{encode_lower, IsBytes}
use Rattle.leveldb_base.specs.Error.{code_text}
use Rattle.leveldb_base.specs.Names.{IsNumber}
use Rattle.leveldb_base.specs.declared.error.StatusCode.{StatusCode}
use Rattle.rusty_leveldb.specs.declared.shell.commands.Command.{Command}
use Rattle.rusty_leveldb.specs.declared.shell.commands.Command.TheVariants as command
use Rattle.rusty_leveldb.specs.declared.shell.commands.Item.{Item}
use Rattle.rusty_leveldb.specs.declared.shell.commands.Item.TheVariants as item
use Rattle.leveldb_iter.specs.declared.moves.Move.{Move}
use Rattle.leveldb_iter.specs.declared.moves.Move.TheVariants as move
use Rattle.leveldb_iter.specs.declared.moves.Step.{Step}
use Rattle.leveldb_iter.specs.declared.moves.Step.TheVariants as step
use Rattle.rusty_leveldb.specs.declared.shell.language.Script.{Script}
use Rattle.rusty_leveldb.specs.declared.shell.language.Script.TheVariants as script
use Rattle.rusty_leveldb.specs.declared.shell.commands.Reply.{Reply}
use Rattle.rusty_leveldb.specs.declared.shell.commands.Reply.TheVariants as reply

-- bytes as a word: two lower case digits each, or a full stop for none
abbrev pub hex_word : List ℕ → List ℕ
hex_word [] = codes "."
hex_word (byte ∷ bytes) = encode_lower (byte ∷ bytes)

-- a change as a word
abbrev pub item_word : Item → List ℕ
item_word (item.Put key value) =
    codes "+" ++ hex_word key.items ++ codes "=" ++ hex_word value.items
item_word (item.Delete key) = codes "-" ++ hex_word key.items

-- whether a write is synced, as a word
abbrev pub sync_word : Bool → List ℕ
sync_word false = codes "0"
sync_word true = codes "1"

-- a move as a word
abbrev pub move_word : Move → List ℕ
move_word move.First = codes "first"
move_word move.Next = codes "next"
move_word move.Prev = codes "prev"
move_word (move.Seek key) = codes "seek=" ++ hex_word key.items

-- the word says what is read: the store as it is now, or the snapshot of this number
abbrev pub IsViewWord : List ℕ → Option ℕ → Type 0
IsViewWord word None = word ≡ codes "now"
IsViewWord word (Some number) = IsNumber word number

-- words, a space before each
abbrev pub words_text : {T : Type 0} → (T → List ℕ) → List T → List ℕ
words_text word all = flat_map (λ one. codes " " ++ word one) all

-- the line is a command's, without its newline
abbrev pub IsLine : List ℕ → Command → Type 0
IsLine line (command.Put key value) =
    line ≡ codes "put " ++ hex_word key.items ++ codes " " ++ hex_word value.items
IsLine line (command.Delete key) = line ≡ codes "del " ++ hex_word key.items
IsLine line (command.Write sync items) =
    line ≡ codes "write " ++ sync_word sync ++ words_text item_word items.items
IsLine line (command.Get key) = line ≡ codes "get " ++ hex_word key.items
IsLine line command.Snap = line ≡ codes "snap"
IsLine line (command.GetAt number key) = (digits : List ℕ) × IsNumber digits number
    × (line ≡ codes "getat " ++ digits ++ codes " " ++ hex_word key.items)
IsLine line (command.Release number) = (digits : List ℕ) × IsNumber digits number
    × (line ≡ codes "release " ++ digits)
IsLine line (command.Walk at moves) = (view : List ℕ) × IsViewWord view at
    × (line ≡ codes "walk " ++ view ++ words_text move_word moves.items)
IsLine line (command.Compact from to) =
    line ≡ codes "compact " ++ hex_word from.items ++ codes " " ++ hex_word to.items
IsLine line command.Flush = line ≡ codes "flush"
IsLine line command.Close = line ≡ codes "close"

-- a change's words are of bytes
abbrev pub ItemHasBytes : Item → Type 0
ItemHasBytes (item.Put key value) = IsBytes key.items × IsBytes value.items
ItemHasBytes (item.Delete key) = IsBytes key.items

-- a move's word is of bytes
abbrev pub MoveHasBytes : Move → Type 0
MoveHasBytes move.First = Unit {0}
MoveHasBytes move.Next = Unit {0}
MoveHasBytes move.Prev = Unit {0}
MoveHasBytes (move.Seek key) = IsBytes key.items

-- a command's words are of bytes
abbrev pub HasBytes : Command → Type 0
HasBytes (command.Put key value) = IsBytes key.items × IsBytes value.items
HasBytes (command.Delete key) = IsBytes key.items
HasBytes (command.Write sync items) = All ItemHasBytes items.items
HasBytes (command.Get key) = IsBytes key.items
HasBytes command.Snap = Unit {0}
HasBytes (command.GetAt number key) = IsBytes key.items
HasBytes (command.Release number) = Unit {0}
HasBytes (command.Walk at moves) = All MoveHasBytes moves.items
HasBytes (command.Compact from to) = IsBytes from.items × IsBytes to.items
HasBytes command.Flush = Unit {0}
HasBytes command.Close = Unit {0}

-- the line is no command's
abbrev pub IsNoLine : List ℕ → Type 0
IsNoLine line = (one : Command) → HasBytes one → IsLine line one → ⊥

-- the text is the lines of these commands, each with its newline
abbrev pub AreLines : List ℕ → List Command → Type 0
AreLines text [] = text ≡ []
AreLines text (one ∷ commands) = (line : List ℕ) × (rest : List ℕ) × IsLine line one
    × (text ≡ line ++ 10 ∷ rest) × AreLines rest commands

-- the text is these commands; its last newline may be missing
abbrev pub IsScript : List ℕ → List Command → Type 0
IsScript text commands = All HasBytes commands
    × (AreLines text commands ⊎ ((commands ≢ []) × AreLines (text ++ 10 ∷ []) commands))

-- the text's line of this number, from 1, is no command, and all before it are
pub record IsBadLine (text : List ℕ) (number : ℕ) : Type 0 where
  pub before : List Command
  pub lines : List ℕ
  pub line : List ℕ
  pub rest : List ℕ
  pub bytes : All HasBytes before
  pub number_is : number ≡ length before + 1
  pub lines_are : AreLines lines before
  pub text_is : (text ≡ lines ++ line ++ 10 ∷ rest)
      ⊎ ((text ≡ lines ++ line) × (line ≢ []))
  pub one_line : Contains line 10 → ⊥
  pub none : IsNoLine line

-- what a text was read as: its commands, or its first line that is none
abbrev pub IsReading : List ℕ → Script → Type 0
IsReading text (script.Commands commands) = IsScript text commands.items
IsReading text (script.BadLine number) = IsBadLine text number

-- the line of a refusal
abbrev pub refusal_line : StatusCode → List ℕ
refusal_line code = codes "refused " ++ code_text code ++ codes "\n"

-- the line that says where a move led
abbrev pub step_line : Step → List ℕ
step_line (step.At key value) =
    codes "at " ++ hex_word key.items ++ codes " " ++ hex_word value.items ++ codes "\n"
step_line step.Invalid = codes "invalid\n"
step_line (step.Refused status) = refusal_line status.code

-- the lines that tell a reply: one, but for a walk, which has one for each of its moves
abbrev pub reply_text : Reply → List ℕ
reply_text reply.Done = codes "ok\n"
reply_text (reply.Value value) = codes "value " ++ hex_word value ++ codes "\n"
reply_text reply.Nothing = codes "none\n"
reply_text (reply.Snapshot number) = codes "snapshot " ++ decimal number ++ codes "\n"
reply_text (reply.Walk steps) = flat_map step_line steps.items
reply_text (reply.Refused status) = refusal_line status.code

-- the lines that tell replies
abbrev pub reply_lines : List Reply → List ℕ
reply_lines replies = flat_map reply_text replies

-- a text grew by this one; where it was refused, by some
abbrev pub OutputGrows : List ℕ → List ℕ → Result (Unit {0}) AllocError → List ℕ → Type 0
OutputGrows before after result text = (more : List ℕ) × (after ≡ before ++ more)
    × OnOk result (more ≡ text)
