use Rattle.std.proofs.Common.{◌≡◌, ◌≤◌, ◌^◌, List, length, inr, arith, subst, sym}
use Rattle.std.proofs.lemmas.Result.{err_from_is_err_and}
use Rattle.leveldb_base.specs.declared.error.Status.{Status}
use Rattle.leveldb_base.specs.declared.error.StatusCode.TheVariants.{NotSupported}
use Rattle.leveldb_base.specs.History.{Entry, placed, greatest}
use Rattle.leveldb_mem.specs.MemTable.{IsUnion, AreNewTo, GrowsByAll, FailsToPrepare, bytes_in}
use Rattle.leveldb_mem.proofs.EntryLemmas.{all_fit, none_fit}
use Rattle.leveldb_mem.proofs.SkipMapLemmas.{caused}
use Rattle.leveldb_mem.proofs.write_batch.WriteBatch.insert_into_memtable.Goals as goal

pub returns-then-from-saturating_sub-clause-cause : goal.returns-then-from-saturating_sub-clause-cause
returns-then-from-saturating_sub-clause-cause g c =
    let items = c.args.self.now.items in
    let more = none_fit c.args.seq items (omega (arith, c.if-from-saturating_sub.true, c.count.ensures, c.from.ensures, c.saturating_sub.ensures)) in
    caused (λ (status : Status). status.code ≡ NotSupported) (FailsToPrepare c.args.memtable.now.kept (length items) (bytes_in items)) (2 ^ 56 ≤ greatest (placed c.args.seq items)) c.err.result c.err.ensures.code more

pub returns-in_err-prepare-clause-too_great : goal.returns-in_err-prepare-clause-too_great
returns-in_err-prepare-clause-too_great g c =
    let fit = all_fit c.args.seq c.args.self.now.items (omega (arith, c.if-from-saturating_sub.false, c.count.ensures, c.from.ensures, c.saturating_sub.ensures)) in
    λ h. absurd (omega (arith, h, fit))

pub returns-in_err-prepare-clause-cause : goal.returns-in_err-prepare-clause-cause
returns-in_err-prepare-clause-cause g c =
    let p = err_from_is_err_and c.from_residual.result c.from_residual.ensures.1 in
    rw (p.1, p.2) (inr c.in_err-prepare.ensures.kept.cause)

pub insert_prepared-requires-clause-numbered : goal.insert_prepared-requires-clause-numbered
insert_prepared-requires-clause-numbered g c = all_fit c.args.seq c.args.self.now.items (omega (arith, c.if-from-saturating_sub.false, c.count.ensures, c.from.ensures, c.saturating_sub.ensures))

pub insert_prepared-requires-clause-new : goal.insert_prepared-requires-clause-new
insert_prepared-requires-clause-new g c =
    subst (λ (entries : List Entry). AreNewTo entries (placed c.args.seq c.args.self.now.items)) (sym c.in_ok-prepare.ensures.kept.entries) c.requires

pub returns-clause-ok : goal.returns-clause-ok
returns-clause-ok g c =
    subst (λ (entries : List Entry). IsUnion entries (placed c.args.seq c.args.self.now.items) c.insert_prepared.new.self.kept.entries) c.in_ok-prepare.ensures.kept.entries c.insert_prepared.ensures.adds.gains

pub returns-clause-grows : goal.returns-clause-grows
returns-clause-grows g c =
    subst (λ (entries : List Entry). GrowsByAll entries (placed c.args.seq c.args.self.now.items) c.insert_prepared.new.self.kept.entries) c.in_ok-prepare.ensures.kept.entries c.insert_prepared.ensures.adds.grows

pub returns-clause-too_great : goal.returns-clause-too_great
returns-clause-too_great g c =
    let fit = all_fit c.args.seq c.args.self.now.items (omega (arith, c.if-from-saturating_sub.false, c.count.ensures, c.from.ensures, c.saturating_sub.ensures)) in
    λ h. absurd (omega (arith, h, fit))
