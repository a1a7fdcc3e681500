use Rattle.std.proofs.Common.{◌<◌, ◌≤◌, ◌-◌, [], ap, ◌∙◌, arith}
use Rattle.std.proofs.lemmas.Result.{err_from_is_err_and, IfOk-weaker, IfErr-weaker}
use Rattle.leveldb_base.specs.Error.{IsOutOfMemory}
use Rattle.leveldb_env.specs.Source.{GivesUp}
use Rattle.leveldb_mem.specs.Log.Reader.{at_end, whatever_follows}
use Rattle.leveldb_mem.specs.Log.Taking.{declared_length, with_unread, PassesFragment, TakesNext}
use Rattle.leveldb_mem.proofs.ReaderLemmas.{UnreadThenGiven-after, UnreadThenGivenAll-after, GivesUp-after, wants_memory}
use Rattle.leveldb_mem.proofs.TakingLemmas.{none_past, none_cut, declared_again, bytes_again, takes_end, takes_passed}
use Rattle.leveldb_mem.proofs.log.reader.ReaderCore.take_in_block.Goals as goal

pub returns-then-not-branch-clause-ok : goal.returns-then-not-branch-clause-ok
returns-then-not-branch-clause-ok g c =
    let short = c.in_ok-fill.ensures.short c.if-not-branch.true in
    takes_end g.S.Source.gives c.args.self.now c.fill.new.self c.args.source.now c.fill.new.source c.in_ok-fill.ensures.reader short.0 short.1 c.end_or.result _ c.args.target.now.items c.end_or.ensures.end.1 c.end_or.ensures.damage

pub returns-then-count-space-clause-ok : goal.returns-then-count-space-clause-ok
returns-then-count-space-clause-ok g c =
    let old = c.args.self.now in
    let bytes = c.fill.new.self.unread in
    let there = c.in_ok-fill.ensures.there c.if-not-branch.false in
    let size = ap (λ r. r.size) c.in_ok-fill.ensures.reader in
    let space = ap (λ r. r.size - r.offset) c.in_ok-fill.ensures.reader in
    let told = c.data_length-count.ensures.stated ∙ ap declared_length c.unread.ensures.value in
    let past : old.size - old.offset - 7 < declared_length bytes = omega arith in
    let fits : old.size ≤ 32768 = omega (arith, c.space.ensures.size.most) in
    whatever_follows bytes there.0 (none_past old.size old.offset fits c.requires bytes there.1 past)

pub returns-in_err-fill-2-clause-err : goal.returns-in_err-fill-2-clause-err
returns-in_err-fill-2-clause-err g c =
    let p = err_from_is_err_and c.from_residual-in_err-fill-2.result c.from_residual-in_err-fill-2.ensures.1 in
    let there = c.in_ok-fill.ensures.there c.if-not-branch.false in
    rw (p.1, p.2) (GivesUp-after g.S.Source.gives there.0.reads c.in_err-fill-2.ensures.err)

pub returns-then-not-branch-2-clause-ok : goal.returns-then-not-branch-2-clause-ok
returns-then-not-branch-2-clause-ok g c =
    let old = c.args.self.now in
    let bytes = c.fill-2.new.self.unread in
    let there = c.in_ok-fill.ensures.there c.if-not-branch.false in
    let short = c.in_ok-fill-2.ensures.short c.if-not-branch-2.true in
    let size = ap (λ r. r.size) c.in_ok-fill.ensures.reader in
    let fits : old.size ≤ 32768 = omega (arith, c.space.ensures.size.most) in
    let told = declared_again c.fill.new.self.unread bytes c.unread.result.now c.data_length-count.result there.1 short.0 c.data_length-count.ensures.stated c.unread.ensures.value in
    at_end bytes (UnreadThenGivenAll-after g.S.Source.gives [] there.0 short.0) (none_cut old.size old.offset fits c.requires bytes told.0 (omega (arith, told.1, short.1)))

pub returns-clause-ok : goal.returns-clause-ok
returns-clause-ok g c =
    let old = c.args.self.now in
    let bytes = c.fill-2.new.self.unread in
    let there = c.in_ok-fill.ensures.there c.if-not-branch.false in
    let more = c.in_ok-fill-2.ensures.there c.if-not-branch-2.false in
    let come = UnreadThenGiven-after g.S.Source.gives [] there.0 more.0 in
    let reader = c.in_ok-fill-2.ensures.reader ∙ ap (λ r. with_unread r bytes) c.in_ok-fill.ensures.reader in
    let text = c.args.target.now.items in
    let new = c.pass_fragment.new.self in
    let after = c.pass_fragment.new.target.items in
    IfOk-weaker c.pass_fragment.result (λ taken. PassesFragment taken c.fill-2.new.self text new after) (λ taken. TakesNext g.S.Source.gives taken old c.args.source.now text new c.fill-2.new.source after)
    (takes_passed g.S.Source.gives old c.fill-2.new.self new c.args.source.now c.fill-2.new.source text after bytes come reader) c.pass_fragment.ensures.ok

pub returns-clause-err : goal.returns-clause-err
returns-clause-err g c =
    let there = c.in_ok-fill.ensures.there c.if-not-branch.false in
    let more = c.in_ok-fill-2.ensures.there c.if-not-branch-2.false in
    IfErr-weaker c.pass_fragment.result IsOutOfMemory (λ status. GivesUp g.S.Source.gives c.args.source.now status c.fill-2.new.source)
    (λ status memory. GivesUp-after g.S.Source.gives there.0.reads (GivesUp-after g.S.Source.gives more.0.reads (wants_memory g.S.Source.gives c.fill-2.new.source status memory))) c.pass_fragment.ensures.cause

pub pass_fragment-requires-clause-stated : goal.pass_fragment-requires-clause-stated
pass_fragment-requires-clause-stated g c =
    let there = c.in_ok-fill.ensures.there c.if-not-branch.false in
    let more = c.in_ok-fill-2.ensures.there c.if-not-branch-2.false in
    let told = declared_again c.fill.new.self.unread c.fill-2.new.self.unread c.unread.result.now c.data_length-count.result there.1 more.0 c.data_length-count.ensures.stated c.unread.ensures.value in
    told.1

pub pass_fragment-requires-clause-bytes : goal.pass_fragment-requires-clause-bytes
pass_fragment-requires-clause-bytes g c =
    let there = c.in_ok-fill.ensures.there c.if-not-branch.false in
    let more = c.in_ok-fill-2.ensures.there c.if-not-branch-2.false in
    bytes_again c.fill.new.self.unread c.fill-2.new.self.unread c.unread.result.now there.1 more.0 c.data_length-count.ensures.bytes c.unread.ensures.value
