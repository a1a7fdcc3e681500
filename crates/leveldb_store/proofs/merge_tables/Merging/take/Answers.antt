use Rattle.std.proofs.Common.{None, ap, refl, sym, inl}
use Rattle.std.proofs.lemmas.Result.{IfOk-from_err, err_from_is_err_and}
use Rattle.leveldb_base.proofs.HistoryLemmas.{exact_order}
use Rattle.leveldb_base.specs.Entries.{entry_of_pair}
use Rattle.leveldb_base.specs.Types.{Pair}
use Rattle.leveldb_store.specs.Compactions.Merging.{last_entry}
use Rattle.leveldb_store.proofs.Compactions.CuttingLemmas.{cut_gone, cut_put, no_ok}
use Rattle.leveldb_store.proofs.Compactions.MergingLemmas.{have_same, in_place_pushed, misplaced, not_among, not_following, not_put, ok_map, taken_gone, taken_put, untagged}
use Rattle.leveldb_store.proofs.merge_tables.Merging.take.Goals as goal

-- the key has no tag
pub returns-then-key-lt-TAG_LEN-clause-takes : goal.returns-then-key-lt-TAG_LEN-clause-takes
returns-then-key-lt-TAG_LEN-clause-takes g c = λ first read merged.
    let order = c.args.plan.now.options.now.cmp in
    let exact = exact_order (g.C.Cmp.accepts order) (g.C.Cmp.cmp order) (g.met.C.UserCmp.accepts_all order) (g.met.C.Cmp.preorder order) (g.met.C.UserCmp.exact order) in
    let pair : Pair = (c.args.key.now, c.args.value.now) in
    misplaced _ g.E.Env exact refl merged pair c.err.result c.err.ensures.code (untagged _ g.E.Env exact refl merged pair c.if-key-lt-TAG_LEN.true)

-- it isn't after the one before
pub returns-then-not-follows-clause-takes : goal.returns-then-not-follows-clause-takes
returns-then-not-follows-clause-takes g c = λ first read merged.
    let order = c.args.plan.now.options.now.cmp in
    let exact = exact_order (g.C.Cmp.accepts order) (g.C.Cmp.cmp order) (g.met.C.UserCmp.accepts_all order) (g.met.C.Cmp.preorder order) (g.met.C.UserCmp.exact order) in
    let pair : Pair = (c.args.key.now, c.args.value.now) in
    let parsed = c.parse_internal_key-kind.ensures in
    misplaced _ g.E.Env exact refl merged pair c.err-then-not-follows.result c.err-then-not-follows.ensures.code
    (not_following _ g.E.Env exact refl merged pair (sym (c.if-not-follows.ensures (last_entry None read) (entry_of_pair pair) merged.passed parsed.sequence parsed.user)))

-- it is in no input's range
pub returns-then-not-is_among_inputs-clause-takes : goal.returns-then-not-is_among_inputs-clause-takes
returns-then-not-is_among_inputs-clause-takes g c = λ first read merged.
    let order = c.args.plan.now.options.now.cmp in
    let exact = exact_order (g.C.Cmp.accepts order) (g.C.Cmp.cmp order) (g.met.C.UserCmp.accepts_all order) (g.met.C.Cmp.preorder order) (g.met.C.UserCmp.exact order) in
    let pair : Pair = (c.args.key.now, c.args.value.now) in
    let parsed = c.parse_internal_key-kind.ensures in
    misplaced _ g.E.Env exact refl merged pair c.err-then-not-is_among_inputs.result c.err-then-not-is_among_inputs.ensures.code
    (not_among _ g.E.Env exact refl merged pair (sym (rw parsed.user at c.if-not-is_among_inputs.ensures)))

-- its entry goes
pub returns-then-goes-clause-takes : goal.returns-then-goes-clause-takes
returns-then-goes-clause-takes g c = λ first read merged.
    let order = c.args.plan.now.options.now.cmp in
    let exact = exact_order (g.C.Cmp.accepts order) (g.C.Cmp.cmp order) (g.met.C.UserCmp.accepts_all order) (g.met.C.Cmp.preorder order) (g.met.C.UserCmp.exact order) in
    let pair : Pair = (c.args.key.now, c.args.value.now) in
    let parsed = c.parse_internal_key-kind.ensures in
    let may = sym (c.if-not-follows.ensures (last_entry None read) (entry_of_pair pair) merged.passed parsed.sequence parsed.user) in
    let are = in_place_pushed exact read pair merged.are_read c.if-key-lt-TAG_LEN.false may (sym (rw parsed.user at c.if-not-is_among_inputs.ensures)) in
    let went = sym (c.if-goes.ensures (last_entry None read) pair merged.passed parsed.kind parsed.sequence parsed.user) in
    taken_gone _ g.E.Env exact refl merged pair are c.keep.result (ap (λ v. v.unfinished) c.end_table.ensures, ap (λ v. v.done) c.end_table.ensures) went
    (ok_map c.keep.result c.keep.ensures.ok (λ kept. kept (entry_of_pair pair) parsed.sequence parsed.user)) c.keep.ensures.memory

-- it isn't put
pub returns-in_err-put-clause-takes : goal.returns-in_err-put-clause-takes
returns-in_err-put-clause-takes g c = λ first read merged.
    let order = c.args.plan.now.options.now.cmp in
    let exact = exact_order (g.C.Cmp.accepts order) (g.C.Cmp.cmp order) (g.met.C.UserCmp.accepts_all order) (g.met.C.Cmp.preorder order) (g.met.C.UserCmp.exact order) in
    let pair : Pair = (c.args.key.now, c.args.value.now) in
    let parsed = c.parse_internal_key-kind.ensures in
    let may = sym (c.if-not-follows.ensures (last_entry None read) (entry_of_pair pair) merged.passed parsed.sequence parsed.user) in
    let are = in_place_pushed exact read pair merged.are_read c.if-key-lt-TAG_LEN.false may (sym (rw parsed.user at c.if-not-is_among_inputs.ensures)) in
    let failed = err_from_is_err_and c.from_residual.result c.from_residual.ensures.1 in
    let same = ap (λ v. v.unfinished) c.end_table.ensures in
    rw failed.1 (rw failed.2 (not_put _ g.E.Env exact refl merged pair are same
    (c.in_err-put.ensures.puts first merged.tables merged.pairs (have_same _ g.E.Env exact refl merged pair (same, ap (λ v. v.done) c.end_table.ensures)))))

-- it is put
pub returns-clause-takes : goal.returns-clause-takes
returns-clause-takes g c = λ first read merged.
    let order = c.args.plan.now.options.now.cmp in
    let exact = exact_order (g.C.Cmp.accepts order) (g.C.Cmp.cmp order) (g.met.C.UserCmp.accepts_all order) (g.met.C.Cmp.preorder order) (g.met.C.UserCmp.exact order) in
    let pair : Pair = (c.args.key.now, c.args.value.now) in
    let parsed = c.parse_internal_key-kind.ensures in
    let may = sym (c.if-not-follows.ensures (last_entry None read) (entry_of_pair pair) merged.passed parsed.sequence parsed.user) in
    let are = in_place_pushed exact read pair merged.are_read c.if-key-lt-TAG_LEN.false may (sym (rw parsed.user at c.if-not-is_among_inputs.ensures)) in
    let stayed = sym (c.if-goes.ensures (last_entry None read) pair merged.passed parsed.kind parsed.sequence parsed.user) in
    taken_put _ g.E.Env exact refl merged pair are c.keep-2.result stayed
    (c.in_ok-put.ensures.puts first merged.tables merged.pairs (have_same _ g.E.Env exact refl merged pair (ap (λ v. v.unfinished) c.end_table.ensures, ap (λ v. v.done) c.end_table.ensures)))
    (ok_map c.keep-2.result c.keep-2.ensures.ok (λ kept. kept (entry_of_pair pair) parsed.sequence parsed.user)) c.keep-2.ensures.memory

-- the version set

pub returns-then-key-lt-TAG_LEN-clause-numbers : goal.returns-then-key-lt-TAG_LEN-clause-numbers
returns-then-key-lt-TAG_LEN-clause-numbers g c = inl refl

pub returns-then-key-lt-TAG_LEN-clause-version : goal.returns-then-key-lt-TAG_LEN-clause-version
returns-then-key-lt-TAG_LEN-clause-version g c = refl

pub returns-then-not-follows-clause-numbers : goal.returns-then-not-follows-clause-numbers
returns-then-not-follows-clause-numbers g c = inl refl

pub returns-then-not-follows-clause-version : goal.returns-then-not-follows-clause-version
returns-then-not-follows-clause-version g c = refl

pub returns-then-not-is_among_inputs-clause-numbers : goal.returns-then-not-is_among_inputs-clause-numbers
returns-then-not-is_among_inputs-clause-numbers g c = inl refl

pub returns-then-not-is_among_inputs-clause-version : goal.returns-then-not-is_among_inputs-clause-version
returns-then-not-is_among_inputs-clause-version g c = refl

pub returns-then-goes-clause-numbers : goal.returns-then-goes-clause-numbers
returns-then-goes-clause-numbers g c = inl refl

pub returns-then-goes-clause-version : goal.returns-then-goes-clause-version
returns-then-goes-clause-version g c = refl

pub returns-in_err-put-clause-numbers : goal.returns-in_err-put-clause-numbers
returns-in_err-put-clause-numbers g c = c.in_err-put.ensures.numbers

pub returns-in_err-put-clause-version : goal.returns-in_err-put-clause-version
returns-in_err-put-clause-version g c = c.in_err-put.ensures.version

pub returns-clause-numbers : goal.returns-clause-numbers
returns-clause-numbers g c = c.in_ok-put.ensures.numbers

pub returns-clause-version : goal.returns-clause-version
returns-clause-version g c = c.in_ok-put.ensures.version

-- where tables are cut

pub returns-then-key-lt-TAG_LEN-clause-cuts : goal.returns-then-key-lt-TAG_LEN-clause-cuts
returns-then-key-lt-TAG_LEN-clause-cuts g c = λ start first read cut. no_ok _ _ c.err.result c.err.ensures.code

pub returns-then-not-follows-clause-cuts : goal.returns-then-not-follows-clause-cuts
returns-then-not-follows-clause-cuts g c = λ start first read cut. no_ok _ _ c.err-then-not-follows.result c.err-then-not-follows.ensures.code

pub returns-then-not-is_among_inputs-clause-cuts : goal.returns-then-not-is_among_inputs-clause-cuts
returns-then-not-is_among_inputs-clause-cuts g c = λ start first read cut. no_ok _ _ c.err-then-not-is_among_inputs.result c.err-then-not-is_among_inputs.ensures.code

pub returns-in_err-put-clause-cuts : goal.returns-in_err-put-clause-cuts
returns-in_err-put-clause-cuts g c = λ start first read cut. IfOk-from_err c.from_residual.result _ c.from_residual.ensures.0

-- its entry goes
pub returns-then-goes-clause-cuts : goal.returns-then-goes-clause-cuts
returns-then-goes-clause-cuts g c = λ start first read cut.
    let order = c.args.plan.now.options.now.cmp in
    let exact = exact_order (g.C.Cmp.accepts order) (g.C.Cmp.cmp order) (g.met.C.UserCmp.accepts_all order) (g.met.C.Cmp.preorder order) (g.met.C.UserCmp.exact order) in
    let pair : Pair = (c.args.key.now, c.args.value.now) in
    let merged = cut.merged in
    let parsed = c.parse_internal_key-kind.ensures in
    let may = sym (c.if-not-follows.ensures (last_entry None read) (entry_of_pair pair) merged.passed parsed.sequence parsed.user) in
    let are = in_place_pushed exact read pair merged.are_read c.if-key-lt-TAG_LEN.false may (sym (rw parsed.user at c.if-not-is_among_inputs.ensures)) in
    let went = sym (c.if-goes.ensures (last_entry None read) pair merged.passed parsed.kind parsed.sequence parsed.user) in
    cut_gone _ g.E.Env exact refl _ _ _ _ cut pair are c.should_stop_before.result _ c.should_stop_before.ensures _ c.keep.result
    (ap (λ v. v.unfinished) c.end_table.ensures, ap (λ v. v.done) c.end_table.ensures) (ap (λ v. v.ends) c.end_table.ensures) went
    (ok_map c.keep.result c.keep.ensures.ok (λ kept. kept (entry_of_pair pair) parsed.sequence parsed.user)) c.keep.ensures.memory

-- it is put
pub returns-clause-cuts : goal.returns-clause-cuts
returns-clause-cuts g c = λ start first read cut.
    let order = c.args.plan.now.options.now.cmp in
    let exact = exact_order (g.C.Cmp.accepts order) (g.C.Cmp.cmp order) (g.met.C.UserCmp.accepts_all order) (g.met.C.Cmp.preorder order) (g.met.C.UserCmp.exact order) in
    let pair : Pair = (c.args.key.now, c.args.value.now) in
    let merged = cut.merged in
    let parsed = c.parse_internal_key-kind.ensures in
    let may = sym (c.if-not-follows.ensures (last_entry None read) (entry_of_pair pair) merged.passed parsed.sequence parsed.user) in
    let are = in_place_pushed exact read pair merged.are_read c.if-key-lt-TAG_LEN.false may (sym (rw parsed.user at c.if-not-is_among_inputs.ensures)) in
    let stayed = sym (c.if-goes.ensures (last_entry None read) pair merged.passed parsed.kind parsed.sequence parsed.user) in
    cut_put _ g.E.Env exact refl _ _ _ _ cut pair are c.should_stop_before.result _ c.should_stop_before.ensures _ c.keep-2.result
    (ap (λ v. v.unfinished) c.end_table.ensures) (ap (λ v. v.ends) c.end_table.ensures) stayed
    (c.in_ok-put.ensures.puts first merged.tables merged.pairs (have_same _ g.E.Env exact refl merged pair (ap (λ v. v.unfinished) c.end_table.ensures, ap (λ v. v.done) c.end_table.ensures)))
    (ok_map c.keep-2.result c.keep-2.ensures.ok (λ kept. kept (entry_of_pair pair) parsed.sequence parsed.user)) c.keep-2.ensures.memory
