use Rattle.std.proofs.Common.{◌≡◌, ◌<◌, ◌-◌, true, false, length, refl, sym, ap, arith}
use Rattle.std.specs.List.{All}
use Rattle.std.proofs.lemmas.List.Elements.{All-same}
use Rattle.leveldb_mem.proofs.TakingLemmas.{takes_end, skips_filler, none_unless_filler}
use Rattle.leveldb_mem.specs.Log.Reader.{whatever_follows}
use Rattle.leveldb_mem.proofs.log.reader.ReaderCore.skip_filler.Goals as goal

pub returns-then-not-branch-clause-ok : goal.returns-then-not-branch-clause-ok
returns-then-not-branch-clause-ok g c = λ text.
    let short = c.in_ok-fill.ensures.short c.if-not-branch.true in
    let few : length c.fill.new.self.unread < 7 = omega (arith, short.1) in
    takes_end g.S.Source.gives c.args.self.now c.fill.new.self c.args.source.now c.fill.new.source c.in_ok-fill.ensures.reader short.0 few c.end_or.result _ text c.end_or.ensures.end.1 c.end_or.ensures.damage

pub returns-then-not-is_zeros-clause-ok : goal.returns-then-not-is_zeros-clause-ok
returns-then-not-is_zeros-clause-ok g c = λ text.
    let old = c.args.self.now in
    let bytes = c.fill.new.self.unread in
    let there = c.in_ok-fill.ensures.there c.if-not-branch.false in
    let same = ap (λ r. r.size - r.offset) c.in_ok-fill.ensures.reader in
    let all = ap length c.unread.ensures.value in
    let count : length bytes ≡ old.size - old.offset = omega (arith, there.1) in
    let other : All (λ byte. byte ≡ 0) bytes → ⊥ = λ zeros. (let no : false ≡ true = c.if-not-is_zeros.ensures.1 (All-same (λ byte. byte ≡ 0) c.unread.result.now bytes c.unread.ensures.value zeros) in cc) in
    whatever_follows bytes there.0 (none_unless_filler old.size old.offset c.requires c.space-space.ensures.inside bytes count other)

pub returns-clause-ok : goal.returns-clause-ok
returns-clause-ok g c =
    let old = c.args.self.now in
    let bytes = c.fill.new.self.unread in
    let there = c.in_ok-fill.ensures.there c.if-not-branch.false in
    let same = ap (λ r. r.size - r.offset) c.in_ok-fill.ensures.reader in
    let all = ap length c.unread.ensures.value in
    let count : length bytes ≡ old.size - old.offset = omega (arith, there.1) in
    let zeros = All-same (λ byte. byte ≡ 0) bytes c.unread.result.now (sym c.unread.ensures.value) (c.if-not-is_zeros.ensures.0 refl) in
    skips_filler g.S.Source.gives old c.fill.new.self c.advance.new.self c.args.source.now c.fill.new.source c.requires c.space-space.ensures.inside c.in_ok-fill.ensures.reader there.0 count zeros
    c.space-space.result c.space-space.ensures.left c.advance.ensures
