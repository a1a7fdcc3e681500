use Rattle.std.proofs.Common.{◌≡◌, ◌∙◌, ◌+◌, ◌++◌, ◌==◌, ◌∷◌, Bool, List, [], Some, ap, cond, map, sym, take}
use Rattle.std.proofs.lemmas.Bool.{eq-eqb, eqb-true}
use Rattle.std.proofs.lemmas.List.{map_push, take_more}
use Rattle.std.specs.Option.{option_copied}
use Rattle.leveldb_base.proofs.OrderLemmas.{is_false}
use Rattle.leveldb_files.specs.Edits.Edit.{Pointer}
use Rattle.leveldb_version.specs.Edits.VersionEdit.{pointer_of}
use Rattle.leveldb_files.specs.Edits.VersionSet.{pointer_at}
use Rattle.leveldb_version_set.proofs.Compactions.PickingLemmas.{pointer_more}
use Rattle.leveldb_version_set.proofs.compaction.pick.last_pointer.Goals as goal
use Rattle.leveldb_version_set.proofs.compaction.pick.last_pointer.Goals.{then-pointer-level, else-pointer-level}

pub loop-pointer-preserved : goal.loop-pointer-preserved
loop-pointer-preserved c =
    let i = c.loop-pointer.pointer-index in
    let level = c.args.level in
    let item = pointer_of c.pointer-item.result in
    let seen = map pointer_of (take i c.args.pointers.now) in
    let next : map pointer_of (take (i + 1) c.args.pointers.now) ≡ seen ++ item ∷ [] =
    ap (map pointer_of) (take_more c.args.pointers.now i c.pointer-item.result c.loop-pointer-test.true ∙ ap (λ p. take i c.args.pointers.now ++ p ∷ []) (sym c.pointer-item.is))
    ∙ map_push pointer_of (take i c.args.pointers.now) c.pointer-item.result in
    let at_next = ap (λ (ps : List Pointer). pointer_at ps level) next ∙ pointer_more seen item level in
    elim c.if-pointer-level.branch [
      | then-pointer-level w ↦
          ap option_copied w.last-is ∙ (ap Some w.deref.ensures
          ∙ sym (at_next ∙ ap (λ (b : Bool). cond b (Some item.key) (pointer_at seen level)) (eq-eqb item.level level w.if-pointer-level.true)))
      | else-pointer-level w ↦
          ap option_copied w.last-is ∙ (c.loop-pointer.invariant
          ∙ sym (at_next ∙ ap (λ (b : Bool). cond b (Some item.key) (pointer_at seen level)) (is_false (item.level == level) (λ yes. w.if-pointer-level.false (eqb-true item.level level yes)))))
    ]
