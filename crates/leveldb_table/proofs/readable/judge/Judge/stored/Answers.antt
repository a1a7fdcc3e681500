use Rattle.std.proofs.Common.{◌≡◌, ◌+◌, length, take, sym, ◌∙◌, ap, refl, arith}
use Rattle.std.proofs.lemmas.List.{length-take-le}
use Rattle.std.proofs.lemmas.Result.{IfOk-from_err}
use Rattle.leveldb_base.specs.BlockHandle.{HandleFits}
use Rattle.leveldb_table.specs.Table.{with_trailer}
use Rattle.leveldb_table.proofs.ReadableFileLemmas.{never_damaged}
use Rattle.leveldb_table.proofs.TableBlockLemmas.{reads_refused, reads_weaker, KeepsDisk-refl, reads_ok}
use Rattle.leveldb_table.proofs.TableLemmas.{read_as, is_there_as, stores_from}
use Rattle.leveldb_table.proofs.ReadableTableLemmas.{stored_within}
use Rattle.leveldb_table.proofs.readable.judge.Judge.stored.Goals as goal

pub returns-in_err-stored-clause-reads : goal.returns-in_err-stored-clause-reads
returns-in_err-stored-clause-reads g c =
    reads_refused g.E.Env c.from_residual.result c.from_residual.ensures.1
    (reads_weaker g.E.Env _
    (never_damaged g.E.Env c.offset-offset.result (c.size-size.result + 5) c.args.self.now.size
    (omega (arith, c.in-Some.ensures, c.in-Some-checked_sub.ensures, c.if-room-size.false)))
    c.in_err-stored.ensures.reads)

pub returns-in_default-checked_id-clause-ok : goal.returns-in_default-checked_id-clause-ok
returns-in_default-checked_id-clause-ok g c = λ bytes has same id stored there.
    let read = read_as bytes c.args.location (c.in_ok-stored.ensures.ok bytes has)
    c.offset-offset.ensures c.size-size.ensures refl in
    c.in_default-checked_id.ensures.none id stored (there.size ∙ sym c.size-size.ensures)
    (c.as_slice.ensures ∙ read ∙ is_there_as there)

pub returns-clause-ok : goal.returns-clause-ok
returns-clause-ok g c = λ bytes has same.
    let handle = c.args.location in
    let read = read_as bytes handle (c.in_ok-stored.ensures.ok bytes has) c.offset-offset.ensures
    c.size-size.ensures refl in
    let items = c.in_ok-stored.stored.items in
    let id = c.in-Some-checked_id.id in
    let fits : HandleFits handle = record { offset = omega arith; size = omega arith } in
    let cut = c.truncate.ensures.items in
    let long : length c.truncate.new.self.items ≡ handle.size =
    ap length cut ∙ length-take-le c.size-size.result items (omega (
      arith,
      c.in_ok-stored.ensures.size,
    )) ∙ c.size-size.ensures in
    stores_from bytes handle id c.truncate.new.self.items fits long
    (sym read ∙ sym c.as_slice.ensures ∙ c.in-Some-checked_id.ensures.some ∙ ap (λ z.
    with_trailer id (take c.size-size.result z)) c.as_slice.ensures ∙ sym (ap (with_trailer
    id) cut))

pub returns-in_default-clause-reads : goal.returns-in_default-clause-reads
returns-in_default-clause-reads g c = reads_ok g.E.Env (KeepsDisk-refl g.E.Env c.args.env.now) refl

pub returns-in_default-checked_sub-clause-reads : goal.returns-in_default-checked_sub-clause-reads
returns-in_default-checked_sub-clause-reads g c = reads_ok g.E.Env (KeepsDisk-refl g.E.Env c.args.env.now) refl

pub returns-then-room-size-clause-reads : goal.returns-then-room-size-clause-reads
returns-then-room-size-clause-reads g c = reads_ok g.E.Env (KeepsDisk-refl g.E.Env c.args.env.now) refl

pub returns-in_err-stored-clause-ok : goal.returns-in_err-stored-clause-ok
returns-in_err-stored-clause-ok g c = IfOk-from_err _ _ c.from_residual.ensures.0

pub returns-in_default-checked_id-clause-reads : goal.returns-in_default-checked_id-clause-reads
returns-in_default-checked_id-clause-reads g c =
    let read = c.in_ok-stored.ensures.reads in
    reads_ok g.E.Env read.kept_disk read.cause.ok

pub returns-clause-reads : goal.returns-clause-reads
returns-clause-reads g c =
    let read = c.in_ok-stored.ensures.reads in
    reads_ok g.E.Env read.kept_disk read.cause.ok

pub returns-in_default-clause-ok : goal.returns-in_default-clause-ok
returns-in_default-clause-ok g c = λ bytes has same id stored there. c.in_default.ensures (omega (arith, same, stored_within there, c.offset-offset.ensures))

pub returns-in_default-checked_sub-clause-ok : goal.returns-in_default-checked_sub-clause-ok
returns-in_default-checked_sub-clause-ok g c = λ bytes has same id stored there. c.in_default-checked_sub.ensures (omega (arith, same, stored_within there, c.offset-offset.ensures, c.in-Some.ensures))

pub returns-then-room-size-clause-ok : goal.returns-then-room-size-clause-ok
returns-then-room-size-clause-ok g c = λ bytes has same id stored there. omega (arith, same, stored_within there, c.offset-offset.ensures, c.size-size.ensures, c.in-Some.ensures, c.in-Some-checked_sub.ensures, c.if-room-size.true)
