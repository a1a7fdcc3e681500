use Rattle.std.proofs.Common.{◌≡◌, ◌<◌, ◌∙◌, Some, None, ap, map, subst, sym}
use Rattle.std.specs.List.{count_by, find}
use Rattle.std.specs.Option.{option_copied, option_map}
use Rattle.leveldb_base.specs.CmpLaws.{total_order}
use Rattle.leveldb_files.specs.Levels.Overlap.{UserRange, sticks_out}
use Rattle.leveldb_version.specs.Edits.VersionEdit.{new_file_of}
use Rattle.leveldb_files.proofs.Levels.OverlapLemmas.{IsWidening, fewer_stick_out, is_partly_in, widening_ends, widening_goes_on, widening_starts}
use Rattle.leveldb_version.proofs.version.overlap.widen.Goals as goal

pub loop-file-init : goal.loop-file-init
loop-file-init g c =
    widening_starts (total_order (g.met.C.Cmp.preorder c.args.ucmp.now) (g.met.C.UserCmp.accepts_all c.args.ucmp.now))
    (map new_file_of c.args.files.now) c.args.range.now

pub loop-file-smaller : goal.loop-file-smaller
loop-file-smaller g c =
    let cmp = g.C.Cmp.cmp c.args.ucmp.now in
    let files = map new_file_of c.args.files.now in
    let found : find (is_partly_in cmp c.loop-file.range) files ≡ Some (new_file_of c.in-Some.file.now) =
    sym c.first_sticking_out.ensures ∙ ap (λ o. option_map new_file_of (option_copied o)) c.in-Some.is in
    subst (λ (r : UserRange). count_by (sticks_out cmp r) files < count_by (sticks_out cmp c.loop-file.range) files) (sym c.widen.ensures)
    (fewer_stick_out (total_order (g.met.C.Cmp.preorder c.args.ucmp.now) (g.met.C.UserCmp.accepts_all c.args.ucmp.now)) files c.loop-file.range (new_file_of c.in-Some.file.now) found)

pub loop-file-preserved : goal.loop-file-preserved
loop-file-preserved g c =
    let cmp = g.C.Cmp.cmp c.args.ucmp.now in
    let files = map new_file_of c.args.files.now in
    let found : find (is_partly_in cmp c.loop-file.range) files ≡ Some (new_file_of c.in-Some.file.now) =
    sym c.first_sticking_out.ensures ∙ ap (λ o. option_map new_file_of (option_copied o)) c.in-Some.is in
    subst (IsWidening cmp files c.args.range.now) (sym c.widen.ensures)
    (widening_goes_on (total_order (g.met.C.Cmp.preorder c.args.ucmp.now) (g.met.C.UserCmp.accepts_all c.args.ucmp.now)) files c.args.range.now c.loop-file.range c.loop-file.invariant (new_file_of c.in-Some.file.now) found)

pub returns : goal.returns
returns g c =
    let cmp = g.C.Cmp.cmp c.args.ucmp.now in
    let files = map new_file_of c.args.files.now in
    let none : find (is_partly_in cmp c.loop-file.range) files ≡ None =
    sym c.first_sticking_out.ensures ∙ ap (λ o. option_map new_file_of (option_copied o)) c.in_default.is in
    widening_ends (total_order (g.met.C.Cmp.preorder c.args.ucmp.now) (g.met.C.UserCmp.accepts_all c.args.ucmp.now)) files c.args.range.now c.loop-file.range c.loop-file.invariant none
