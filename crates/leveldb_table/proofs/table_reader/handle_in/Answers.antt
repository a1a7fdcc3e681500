use Rattle.std.proofs.Common.{◌≡◌, ℕ, List, [], length, drop, Some, sym, ◌∙◌, ap, append-nil}
use Rattle.leveldb_base.specs.BlockHandle.{Handle, handle_bytes, HandleFits, ReadsHandle}
use Rattle.leveldb_base.proofs.BlockHandleLemmas.{one_handle}
use Rattle.leveldb_table.proofs.table_reader.handle_in.Goals as goal
use Rattle.leveldb_table.proofs.table_reader.handle_in.Goals.{in_default-via-in-Some+else-used-bytes, in_default-via-in_default}

-- bytes that a handle leaves over are no handle
left_over : (bytes : List ℕ) (front : Handle) (used : ℕ) → ReadsHandle bytes (Some (front, used))
    → (used ≡ length bytes → ⊥) → (handle : Handle) → HandleFits handle
    → bytes ≡ handle_bytes handle → ⊥
left_over bytes front used reads other handle fits e =
    let same = one_handle front handle (drop used bytes) [] (sym reads.2 ∙ e ∙ sym (append-nil
    (handle_bytes handle))) in
    other (reads.1 ∙ ap (λ z. length (handle_bytes z)) same.0 ∙ sym (ap length e))

pub returns-in_default : goal.returns-in_default
returns-in_default c =
    elim c.in_default.branch [
      | in_default-via-in-Some+else-used-bytes w ↦ left_over c.args.bytes.now _ _ w.in-Some.ensures
          w.if-used-bytes.false
      | in_default-via-in_default w ↦ λ handle fits e. w.in_default.ensures handle [] fits (e ∙ sym
          (append-nil (handle_bytes handle)))
    ]
