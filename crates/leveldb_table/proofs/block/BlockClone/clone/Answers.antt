use Rattle.std.proofs.Common.{rules, ◌≡◌, ℕ, Bool, List, ◌∙◌, ap, subst}
use Rattle.std.specs.declared.cmp.Ordering.{Ordering}
use Rattle.leveldb_table.specs.Block.{BlockEntry, BlockRead, HasEntries, AreEntriesEndingAt, HasEntriesEndingAt}
use Rattle.leveldb_table.specs.BlockLaws.{one_block}
use Rattle.leveldb_table.proofs.block.BlockClone.clone.Goals as goal

abbrev made : {C : Type 0} → C → List ℕ → List BlockEntry → BlockRead C
made cmp bytes entries = record { cmp = cmp; contents = bytes; entries = entries }

-- a copy has the same entries
same_entries : {C : Type 0} {accepts : List ℕ → Bool} {order : List ℕ → List ℕ → Ordering} {bytes contents : List ℕ} {limit : ℕ} {accepted : Bool} (cmp : C) (copy : List BlockEntry) → AreEntriesEndingAt accepts order bytes limit accepted copy → (held : HasEntriesEndingAt accepts order contents limit accepted) → bytes ≡ contents
    → made cmp bytes copy ≡ made cmp contents held.0
same_entries {order = order} {bytes = bytes} cmp copy is held same =
    let entries = one_block (subst (λ b. HasEntries order b copy) same is.encoded) held.1.encoded in
    ap (made cmp bytes) entries ∙ ap (λ b. made cmp b held.0) same

pub returns : goal.returns
returns g c = rw (← c.self.view_is) (record { cases = (same_entries c.self.inside.cmp _ (search rules) c.self.inside.entries c.in_ok-clone.ensures.cases, c.self.inside.entries.1.encoded) })
