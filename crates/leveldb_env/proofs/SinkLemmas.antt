-- How the puts of a sink compose, and what they append to bytes in memory.
use Rattle.std.proofs.Common.{◌≡◌, ℕ, List, [], ◌∷◌, ◌++◌, Result, Ok, Err, refl, sym, subst, ◌∙◌, ap, append_assoc}
use Rattle.std.specs.List.{concat}
use Rattle.std.specs.Borrow.{MutBor}
use Rattle.std.proofs.lemmas.List.{append-nil}
use Rattle.std.proofs.lemmas.List.Folds.{concat-append}
use Rattle.leveldb_base.specs.declared.error.Status.{Status}
use Rattle.leveldb_env.specs.Sink.{PutsEach, PutsAll, PutsPart, AppendsBytes, ChangesBorrowed}

-- ---- any sink

module _ {S : Type 0} (puts : S → List ℕ → Result (Unit {0}) Status → S → Type 0) where
  -- nothing was put
  pub PutsAll-none : (from : S) → PutsAll puts from [] from
  PutsAll-none from = record { pieces = []; put = refl; joined = refl }

  -- one put
  pub PutsAll-one : {from to : S} {bytes : List ℕ} → puts from bytes (Ok tt) to → PutsAll puts from bytes to
  PutsAll-one {from} {to} {bytes} put = record { pieces = bytes ∷ []; put = (to, put, refl); joined = sym (append-nil bytes) }

  each_append : (from : S) (pieces : List (List ℕ)) (mid : S) (others : List (List ℕ)) (to : S) → PutsEach puts from pieces mid → PutsEach puts mid others to
      → PutsEach puts from (pieces ++ others) to
  each_append from [] mid others to first second = subst (λ s. PutsEach puts s others to) first second
  each_append from (piece ∷ pieces) mid others to first second = (first.0, first.1, each_append first.0 pieces mid others to first.2 second)

  -- puts, and then others
  pub PutsAll-trans : {from mid to : S} {bytes others : List ℕ} → PutsAll puts from bytes mid → PutsAll puts mid others to → PutsAll puts from (bytes ++ others) to
  PutsAll-trans {from} {mid} {to} {bytes} {others} first second = record {
    pieces = first.pieces ++ second.pieces;
    put = each_append from first.pieces mid second.pieces to first.put second.put;
    joined = ap (λ b. b ++ others) first.joined ∙ ap (λ b. concat first.pieces ++ b) second.joined ∙ sym (concat-append first.pieces second.pieces);
  }

  -- the first put fails
  pub PutsPart-one : {from to : S} {bytes : List ℕ} {status : Status} → puts from bytes (Err status) to → PutsPart puts from bytes status to
  PutsPart-one {from} {to} {bytes} {status} failed = record { mid = from; done = []; piece = bytes; put_before = PutsAll-none from; failed = failed; joined = refl }

  -- puts, and then some that break off
  pub PutsPart-trans : {from mid to : S} {bytes others : List ℕ} {status : Status} → PutsAll puts from bytes mid → PutsPart puts mid others status to
      → PutsPart puts from (bytes ++ others) status to
  PutsPart-trans {from} {mid} {to} {bytes} {others} {status} first second = record {
    mid = second.mid;
    done = bytes ++ second.done;
    piece = second.piece;
    put_before = PutsAll-trans first second.put_before;
    failed = second.failed;
    joined = ap (λ b. bytes ++ b) second.joined ∙ sym (append_assoc bytes second.done second.piece);
  }

-- ---- a sink that is seen as another

module _ {S T : Type 0} (puts : S → List ℕ → Result (Unit {0}) Status → S → Type 0) (seen_puts : T → List ℕ → Result (Unit {0}) Status → T → Type 0) (seen : S → T)
    (so : (old : S) (bytes : List ℕ) (result : Result (Unit {0}) Status) (new : S) → puts old bytes result new → seen_puts (seen old) bytes result (seen new)) where
  each_seen : (from : S) (pieces : List (List ℕ)) (to : S) → PutsEach puts from pieces to → PutsEach seen_puts (seen from) pieces (seen to)
  each_seen from [] to put = ap seen put
  each_seen from (piece ∷ pieces) to put = (seen put.0, so from piece (Ok tt) put.0 put.1, each_seen put.0 pieces to put.2)

  pub PutsAll-seen : {from to : S} {bytes : List ℕ} → PutsAll puts from bytes to → PutsAll seen_puts (seen from) bytes (seen to)
  PutsAll-seen {from} {to} all = record { pieces = all.pieces; put = each_seen from all.pieces to all.put; joined = all.joined }

  pub PutsPart-seen : {from to : S} {bytes : List ℕ} {status : Status} → PutsPart puts from bytes status to → PutsPart seen_puts (seen from) bytes status (seen to)
  PutsPart-seen {from} {to} {bytes} {status} broken = record {
    mid = seen broken.mid;
    done = broken.done;
    piece = broken.piece;
    put_before = PutsAll-seen broken.put_before;
    failed = so broken.mid broken.piece (Err status) to broken.failed;
    joined = broken.joined;
  }

-- what each put leaves as it is stays so
module _ {S N : Type 0} (puts : S → List ℕ → Result (Unit {0}) Status → S → Type 0) (name : S → N)
    (so : (old : S) (bytes : List ℕ) (result : Result (Unit {0}) Status) (new : S) → puts old bytes result new → name new ≡ name old) where
  each_same : (from : S) (pieces : List (List ℕ)) (to : S) → PutsEach puts from pieces to → name to ≡ name from
  each_same from [] to put = ap name put
  each_same from (piece ∷ pieces) to put = each_same put.0 pieces to put.2 ∙ so from piece (Ok tt) put.0 put.1

  pub PutsAll-same : {from to : S} {bytes : List ℕ} → PutsAll puts from bytes to → name to ≡ name from
  PutsAll-same {from} {to} all = each_same from all.pieces to all.put

  pub PutsPart-same : {from to : S} {bytes : List ℕ} {status : Status} → PutsPart puts from bytes status to → name to ≡ name from
  PutsPart-same {from} {to} {bytes} {status} broken = so broken.mid broken.piece (Err status) to broken.failed ∙ PutsAll-same broken.put_before

-- what is put into a sink that is borrowed is put into what is borrowed
pub PutsAll-borrowed : {S : Type 0} (puts : S → List ℕ → Result (Unit {0}) Status → S → Type 0) {from to : MutBor S} {bytes : List ℕ}
    → PutsAll (λ old bytes result new. ChangesBorrowed (λ s t. puts s bytes result t) old new) from bytes to → ChangesBorrowed (λ s t. PutsAll puts s bytes t) from to
PutsAll-borrowed {S} puts all =
    let borrowed : MutBor S → List ℕ → Result (Unit {0}) Status → MutBor S → Type 0 = λ old bytes result new. ChangesBorrowed (λ s t. puts s bytes result t) old new in
    record {
      changes = PutsAll-seen borrowed puts (λ s. s.now) (λ old bytes result new put. put.changes) all;
      same_reference = PutsAll-same borrowed (λ s. s.ghost_name) (λ old bytes result new put. put.same_reference) all;
    }

-- ---- bytes in memory

each_after : (from : List ℕ) (pieces : List (List ℕ)) (to : List ℕ) → PutsEach AppendsBytes from pieces to → to ≡ from ++ concat pieces
each_after from [] to put = put ∙ sym (append-nil from)
each_after from (piece ∷ pieces) to put = each_after put.0 pieces to put.2 ∙ ap (λ b. b ++ concat pieces) put.1.ok ∙ append_assoc from piece (concat pieces)

-- all that was put is appended to what was there
pub PutsAll-bytes : {S : Type 0} (items : S → List ℕ) {from to : S} {bytes : List ℕ}
    → PutsAll (λ old put result new. AppendsBytes (items old) put result (items new)) from bytes to → items to ≡ items from ++ bytes
PutsAll-bytes {S} items {from} {to} all =
    let seen = PutsAll-seen (λ (old : S) put result (new : S). AppendsBytes (items old) put result (items new)) AppendsBytes items (λ old put result new behind. behind) all in
    each_after (items from) seen.pieces (items to) seen.put ∙ ap (λ b. items from ++ b) (sym seen.joined)
