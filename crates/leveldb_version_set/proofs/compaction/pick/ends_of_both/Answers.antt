use Rattle.std.proofs.Common.{◌≡◌, List, [], refl, subst, ap, ℕ}
use Rattle.std.specs.Borrow.{Bor}
use Rattle.leveldb_base.specs.CmpLaws.{total_order}
use Rattle.leveldb_base.specs.declared.types.FileMetaData.{FileMetaData}
use Rattle.leveldb_version_set.proofs.Compactions.InputsLemmas.{within_both, within_one}
use Rattle.leveldb_version_set.specs.Compactions.Inputs.{AreKeyEnds}
use Rattle.leveldb_version.specs.Versions.Version.{borrowed_files}
use Rattle.leveldb_version_set.proofs.compaction.pick.ends_of_both.Goals as goal

pub returns-in-Some-ends_of-clause-ends : goal.returns-in-Some-ends_of-clause-ends
returns-in-Some-ends_of-clause-ends g c =
    let cmp = g.C.Cmp.cmp c.args.ucmp.now in
    let low = c.in-Some.low.now in
    let high = c.in-Some.high.now in
    let first = c.in-Some-ends_of.first.now in
    let last = c.in-Some-ends_of.last.now in
    within_both cmp (total_order (g.met.C.Cmp.preorder c.args.ucmp.now) (g.met.C.UserCmp.accepts_all c.args.ucmp.now)) (borrowed_files c.args.inputs.now.of_level.items)
    (borrowed_files c.args.inputs.now.of_next.items) low high first last c.lesser.result.now c.greater.result.now
    (subst (λ (all : List (Bor (ℕ × FileMetaData))). AreKeyEnds cmp (borrowed_files all) low high) c.as_slice.ensures.value c.in-Some.ensures.ends)
    (subst (λ (all : List (Bor (ℕ × FileMetaData))). AreKeyEnds cmp (borrowed_files all) first last) c.as_slice-2.ensures.value c.in-Some-ends_of.ensures.ends)
    c.lesser.ensures c.greater.ensures

pub returns-in-None-clause-ends : goal.returns-in-None-clause-ends
returns-in-None-clause-ends g c =
    let cmp = g.C.Cmp.cmp c.args.ucmp.now in
    let low = c.in-Some.low.now in
    let high = c.in-Some.high.now in
    within_one cmp (borrowed_files c.args.inputs.now.of_level.items) (borrowed_files c.args.inputs.now.of_next.items) low high
    (subst (λ (all : List (Bor (ℕ × FileMetaData))). AreKeyEnds cmp (borrowed_files all) low high) c.as_slice.ensures.value c.in-Some.ensures.ends)
    (ap borrowed_files (subst (λ (all : List (Bor (ℕ × FileMetaData))). all ≡ []) c.as_slice-2.ensures.value (c.in-None.ensures.none.0 refl)))
