-- Moves of a walk after which its pair is copied.
use Rattle.std.specs.Prelude.{IfErr, is_err}
use Rattle.std.proofs.Common.{◌≡◌, inl, inr, ℕ, true, false, List, sym, Option, None, Result, Ok, Err}
use Rattle.std.proofs.lemmas.Bool.{false≢true}
use Rattle.leveldb_base.specs.Types.{Pair}
use Rattle.leveldb_base.specs.declared.error.Status.{Status}
use Rattle.leveldb_base.specs.Error.{IsOutOfMemory}
use Rattle.leveldb_iter.specs.declared.walk.Walk.{Ghosts as WalkGhosts}
use Rattle.leveldb_iter.specs.Walk.{KeyOrder, Way, WalkLaws, MovesWalk, Resets}
use Rattle.leveldb_iter.specs.WalkIter.{OrOutOfMemory}

module _ {E T S : Type 0} (walk : WalkGhosts S E T) (laws : WalkLaws walk.over walk.is_at walk.here walk.fails walk.keeps) where
  abbrev From : Type 1
  From = E × T → S → KeyOrder → List Pair → Option ℕ → Type 0

  abbrev Moved : From → Way → {R : Type 0} → E × T → S → Result R Status → E × T → S → Type 0
  Moved from to {R} = MovesWalk walk.over walk.is_at walk.here walk.fails walk.keeps {R = R} from to

  abbrev Copied : From → Way → {R : Type 0} → E × T → S → Result R Status → E × T → S → Type 0
  Copied from to {R} = MovesWalk walk.over walk.is_at walk.here (OrOutOfMemory walk.fails) walk.keeps {R = R} from to

  excused : {old_world new_world : E × T} {old new : S} → ((later : E × T) (status : Status) → walk.fails new_world new later status → walk.fails old_world old later status)
      → (later : E × T) (status : Status) → OrOutOfMemory walk.fails new_world new later status → OrOutOfMemory walk.fails old_world old later status
  excused excuses later status (inl fails) = inl (excuses later status fails)
  excused excuses later status (inr memory) = inr memory

  -- the move fails
  pub move_fails : {from : From} {to : Way} {R R' : Type 0} {old_world : E × T} {old : S} {status : Status} {new_world : E × T} {new : S} → Moved from to {R = R} old_world old (Err status) new_world new
      → Copied from to {R = R'} old_world old (Err status) new_world new
  move_fails m = record {
    ok = m.ok;
    same = m.same;
    err = m.err;
    none = m.none;
    kept = m.kept;
    cause = inl m.cause;
    excuses = excused m.excuses;
  }

  -- the move is made, and then the copy or none
  pub copies : {from : From} {to : Way} {R R' : Type 0} {old_world : E × T} {old : S} {r : R} {new_world : E × T} {new : S} (result : Result R' Status) → is_err result ≡ false → Moved from to old_world old (Ok r) new_world new
      → Copied from to old_world old result new_world new
  copies (Err status) is m = absurd (false≢true (sym is))
  copies (Ok copied) is m = record {
    ok = m.ok;
    same = m.same;
    err = m.err;
    none = m.none;
    kept = m.kept;
    cause = m.cause;
    excuses = excused m.excuses;
  }

  -- the move is made, and for the copy there is no memory
  pub copy_fails : {from : From} {to : Way} {R R' : Type 0} {old_world : E × T} {old : S} {r : R} {new_world : E × T} {mid new : S} (result : Result R' Status) → is_err result ≡ true → IfErr result IsOutOfMemory
      → Moved from to old_world old (Ok r) new_world mid → Resets walk.over walk.is_at walk.here walk.fails walk.keeps mid new → Copied from to old_world old result new_world new
  copy_fails (Ok copied) is memory m reset = absurd (false≢true is)
  copy_fails {new_world = new_world} {new = new} (Err status) is memory m reset = record {
    ok = λ order pairs position led. tt;
    same = λ order pairs over. laws.over_list new_world new order pairs None (reset.at_none new_world order pairs (m.same order pairs over));
    err = λ order pairs over. reset.at_none new_world order pairs (m.same order pairs over);
    none = reset.none;
    kept = m.kept;
    cause = inr memory;
    excuses = excused (λ later status fails. m.excuses later status (reset.excuses new_world later status fails));
  }
