-- How the reads of a source compose, and what they give of bytes in memory.
use Rattle.std.proofs.Common.{◌≡◌, ⊎_elim, inl, inr, ◌<◌, ℕ, zero, suc, List, [], ◌∷◌, ◌++◌, length, take, drop, Result, Ok, Err, refl, sym, subst, ◌∙◌, ap, append_assoc, arith}
use Rattle.std.specs.List.{concat}
use Rattle.std.proofs.Math.Seq.{drop-nil}
use Rattle.std.proofs.lemmas.List.{append-nil, take-append-drop}
use Rattle.std.proofs.lemmas.List.Folds.{concat-append}
use Rattle.leveldb_base.specs.declared.error.Status.{Status}
use Rattle.leveldb_base.specs.Error.{IsOutOfMemory}
use Rattle.leveldb_env.specs.Source.{Draws, ReadFails, GivesSome, GivesAll, GivesUp, GivesFirst}

-- ---- any source

module _ {S : Type 0} (gives : S → ℕ → Result (List ℕ) Status → S → Type 0) where
  -- one read more
  pub Draws-append : (from : S) (pieces : List (List ℕ)) (mid : S) (room : ℕ) (piece : List ℕ) (to : S) → Draws gives from pieces mid → 0 < length piece
      → gives mid room (Ok piece) to → Draws gives from (pieces ++ piece ∷ []) to
  Draws-append from [] mid room piece to drawn some last = (room, to, some, subst (λ s. gives s room (Ok piece) to) drawn last, refl)
  Draws-append from (first ∷ others) mid room piece to drawn some last =
      (drawn.0, drawn.1, drawn.2, drawn.3, Draws-append drawn.1 others mid room piece to drawn.4 some last)

  -- no read yet
  pub GivesSome-none : (from : S) → GivesSome gives from [] from
  GivesSome-none from = record { pieces = []; drawn = refl; joined = refl }

  -- one read more
  pub GivesSome-more : {from mid to : S} {bytes : List ℕ} {room : ℕ} {piece : List ℕ} → GivesSome gives from bytes mid → 0 < length piece
      → gives mid room (Ok piece) to → GivesSome gives from (bytes ++ piece) to
  GivesSome-more {from} {mid} {to} {bytes} {room} {piece} before some last = record {
    pieces = before.pieces ++ piece ∷ [];
    drawn = Draws-append from before.pieces mid room piece to before.drawn some last;
    joined = ap (λ b. b ++ piece) before.joined ∙ sym (concat-append before.pieces (piece ∷ []) ∙ ap (λ b. concat before.pieces ++ b) (append-nil piece));
  }

-- ---- a source that is seen as another

module _ {S T : Type 0} (gives : S → ℕ → Result (List ℕ) Status → S → Type 0) (seen_gives : T → ℕ → Result (List ℕ) Status → T → Type 0) (seen : S → T)
    (so : (old : S) (room : ℕ) (result : Result (List ℕ) Status) (new : S) → gives old room result new → seen_gives (seen old) room result (seen new)) where
  drawn_seen : (from : S) (pieces : List (List ℕ)) (to : S) → Draws gives from pieces to → Draws seen_gives (seen from) pieces (seen to)
  drawn_seen from [] to drawn = ap seen drawn
  drawn_seen from (piece ∷ pieces) to drawn = (drawn.0, seen drawn.1, drawn.2, so from drawn.0 (Ok piece) drawn.1 drawn.3, drawn_seen drawn.1 pieces to drawn.4)

  pub GivesSome-seen : {from to : S} {bytes : List ℕ} → GivesSome gives from bytes to → GivesSome seen_gives (seen from) bytes (seen to)
  GivesSome-seen {from} {to} some = record { pieces = some.pieces; drawn = drawn_seen from some.pieces to some.drawn; joined = some.joined }

  pub GivesAll-seen : {from to : S} {bytes : List ℕ} → GivesAll gives from bytes to → GivesAll seen_gives (seen from) bytes (seen to)
  GivesAll-seen {from} {to} all = record {
    mid = seen all.mid;
    given_before = GivesSome-seen all.given_before;
    at_end = (all.at_end.0, all.at_end.1, so all.mid all.at_end.0 (Ok []) to all.at_end.2);
  }

  pub GivesUp-seen : {from to : S} {status : Status} → GivesUp gives from status to → GivesUp seen_gives (seen from) status (seen to)
  GivesUp-seen {from} {to} {status} up = record {
    mid = seen up.mid;
    bytes = up.bytes;
    given_before = GivesSome-seen up.given_before;
    why = ⊎_elim (λ (failed : ReadFails gives up.mid status to). inl (failed.0, so up.mid failed.0 (Err status) to failed.1))
        (λ (memory : (to ≡ up.mid) × IsOutOfMemory status). inr (ap seen memory.0, memory.1)) up.why;
  }

-- what each read leaves as it is stays so
module _ {S N : Type 0} (gives : S → ℕ → Result (List ℕ) Status → S → Type 0) (name : S → N)
    (so : (old : S) (room : ℕ) (result : Result (List ℕ) Status) (new : S) → gives old room result new → name new ≡ name old) where
  drawn_same : (from : S) (pieces : List (List ℕ)) (to : S) → Draws gives from pieces to → name to ≡ name from
  drawn_same from [] to drawn = ap name drawn
  drawn_same from (piece ∷ pieces) to drawn = drawn_same drawn.1 pieces to drawn.4 ∙ so from drawn.0 (Ok piece) drawn.1 drawn.3

  pub GivesSome-same : {from to : S} {bytes : List ℕ} → GivesSome gives from bytes to → name to ≡ name from
  GivesSome-same {from} {to} some = drawn_same from some.pieces to some.drawn

  pub GivesAll-same : {from to : S} {bytes : List ℕ} → GivesAll gives from bytes to → name to ≡ name from
  GivesAll-same {from} {to} all = so all.mid all.at_end.0 (Ok []) to all.at_end.2 ∙ GivesSome-same all.given_before

  pub GivesUp-same : {from to : S} {status : Status} → GivesUp gives from status to → name to ≡ name from
  GivesUp-same {from} {to} {status} up =
      ⊎_elim (λ (failed : ReadFails gives up.mid status to). so up.mid failed.0 (Err status) to failed.1)
      (λ (memory : (to ≡ up.mid) × IsOutOfMemory status). ap name memory.0) up.why
      ∙ GivesSome-same up.given_before

-- ---- bytes in memory

taken_none : (room : ℕ) (bytes : List ℕ) → 0 < room → [] ≡ take room bytes → bytes ≡ []
taken_none room [] some none = refl
taken_none zero (byte ∷ bytes) some none = absurd (omega arith)
taken_none (suc room) (byte ∷ bytes) some none = cc

drawn_first : (from : List ℕ) (pieces : List (List ℕ)) (to : List ℕ) → Draws GivesFirst from pieces to → from ≡ concat pieces ++ to
drawn_first from [] to drawn = sym drawn
drawn_first from (piece ∷ pieces) to drawn =
    let piece_is : piece ≡ take drawn.0 from = cc (drawn.3.ok) in
    sym (take-append-drop drawn.0 from) ∙ ap (λ p. p ++ drop drawn.0 from) (sym piece_is)
    ∙ ap (λ b. piece ++ b) (sym drawn.3.left ∙ drawn_first drawn.1 pieces to drawn.4) ∙ sym (append_assoc piece (concat pieces) to)

module _ {S : Type 0} (left : S → List ℕ) where
  abbrev first_given : S → ℕ → Result (List ℕ) Status → S → Type 0
  first_given old room result new = GivesFirst (left old) room result (left new)

  -- what was given comes before what is left
  pub GivesSome-first : {from to : S} {bytes : List ℕ} → GivesSome first_given from bytes to → left from ≡ bytes ++ left to
  GivesSome-first {from} {to} some =
      let seen = GivesSome-seen first_given GivesFirst left (λ old room result new first. first) some in
      drawn_first (left from) seen.pieces (left to) seen.drawn ∙ ap (λ b. b ++ left to) (sym seen.joined)

  -- all was given, and nothing is left
  pub GivesAll-first : {from to : S} {bytes : List ℕ} → GivesAll first_given from bytes to → (bytes ≡ left from) × (left to ≡ [])
  GivesAll-first {from} {to} {bytes} all =
      let none : [] ≡ take all.at_end.0 (left all.mid) = cc (all.at_end.2.ok) in
      let ended = taken_none all.at_end.0 (left all.mid) all.at_end.1 none in (
        sym (GivesSome-first all.given_before ∙ ap (λ b. bytes ++ b) ended ∙ append-nil bytes),
        all.at_end.2.left ∙ ap (drop all.at_end.0) ended ∙ drop-nil all.at_end.0,
      )
