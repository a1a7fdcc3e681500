use Rattle.std.proofs.Common.{Vec, subst, sym, ℕ}
use Rattle.std.proofs.lemmas.List.Elements.{Contains-append_left}
use Rattle.std.specs.Borrow.{Bor}
use Rattle.std.specs.Global.{Global}
use Rattle.std.specs.Prelude.{Contains}
use Rattle.leveldb_base.specs.CmpLaws.{total_order}
use Rattle.leveldb_base.specs.declared.types.FileMetaData.{FileMetaData}
use Rattle.leveldb_files.proofs.Levels.OverlapLemmas.{if_ok_more}
use Rattle.leveldb_version_set.proofs.Compactions.InputsLemmas.{within_left}
use Rattle.leveldb_version_set.proofs.Compactions.PickingLemmas.{if_some_more, seen_is_input}
use Rattle.leveldb_version_set.specs.Compactions.Inputs.{AreWithin, input_files}
use Rattle.leveldb_version.specs.Versions.Version.{borrowed_files, new_files_of}
use Rattle.leveldb_version_set.proofs.compaction.pick.wider.Goals as goal

pub returns-clause-keeps : goal.returns-clause-keeps
returns-clause-keeps g c = λ ordered.
    let version = c.args.version.now in
    let cmp = g.C.Cmp.cmp version.cmp in
    let files = new_files_of version in
    let seen = borrowed_files c.args.narrow.now.of_level.items in
    let next = borrowed_files c.args.narrow.now.of_next.items in
    let low = c.in-Some.low.now in
    let high = c.in-Some.high.now in
    let wide = within_left cmp seen next low high (subst (λ (u : g.row.C.Denot). AreWithin (g.C.Cmp.cmp u) (input_files c.args.narrow.now) low high) c.ucmp.ensures c.in-Some.ensures.ends) in
    if_ok_more c.with_next.result c.with_next.ensures.same (λ inputs same. if_some_more inputs same (λ it is file d.
    subst (λ (v : Vec (Bor (ℕ × FileMetaData)) Global). Contains (borrowed_files v.items) file) (sym is)
    (seen_is_input cmp (total_order (g.met.C.Cmp.preorder version.cmp) (g.met.C.UserCmp.accepts_all version.cmp)) c.args.level files (borrowed_files c.in_ok-chosen.chosen.items) seen low high
    c.in_ok-chosen.ensures.inputs ordered wide file d (c.requires.may.may.there file (Contains-append_left seen next file d)) (c.requires.may.of_level file d))))
