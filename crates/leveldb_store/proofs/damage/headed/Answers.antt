use Rattle.std.proofs.Common.{◌∙◌, ◌+◌, ◌++◌, ◌<◌, ◌≤◌, ap, drop, length, subst, sym}
use Rattle.std.proofs.lemmas.List.{take-append-drop}
use Rattle.leveldb_mem.specs.Log.{log_block_size, room}
use Rattle.leveldb_store.proofs.Logs.LogDamageLemmas.{headed_by, if_none, none_cut, none_headless, none_past}
use Rattle.leveldb_store.proofs.damage.headed.Goals as goal

pub returns-then-body-lt-HEADER_SIZE-clause-none :
    goal.returns-then-body-lt-HEADER_SIZE-clause-none
returns-then-body-lt-HEADER_SIZE-clause-none c =
    none_headless c.args.offset c.args.body.now c.if-body-lt-HEADER_SIZE.true

pub returns-then-count-room_at-clause-none : goal.returns-then-count-room_at-clause-none
returns-then-count-room_at-clause-none c =
    none_past c.args.offset c.args.body.now c.if-body-lt-HEADER_SIZE.false
    (subst (λ n. room log_block_size c.args.offset < n) c.data_length-count.ensures.stated
    (subst (λ n. n < c.data_length-count.result) c.room_at.ensures c.if-count-room_at.true))

pub returns-in_err-fragment-clause-none : goal.returns-in_err-fragment-clause-none
returns-in_err-fragment-clause-none c =
    if_none c.from_residual.result (none_cut c.args.offset c.args.body.now
    c.if-body-lt-HEADER_SIZE.false
    (subst (λ n. length c.args.body.now < 7 + n) c.data_length-count.ensures.stated c.in_err-fragment.ensures.cases))

pub returns-clause-some : goal.returns-clause-some
returns-clause-some c =
    let body = c.args.body.now in
    let count = c.data_length-count.result in
    let cut = c.in_ok-fragment.ensures.cases in
    let stated = c.data_length-count.ensures.stated in
    headed_by c.args.offset body c.in_ok-fragment.fragment.now (drop (7 + count) body)
    (sym (take-append-drop (7 + count) body)
    ∙ ap (λ z. z ++ drop (7 + count) body) (sym cut.1))
    (cut.3 ∙ ap (λ n. 7 + n) stated)
    c.data_length-count.ensures.bytes.0 c.data_length-count.ensures.bytes.1
    (subst (λ n. n ≤ room log_block_size c.args.offset) stated
    (subst (λ n. count ≤ n) c.room_at.ensures c.if-count-room_at.false))
