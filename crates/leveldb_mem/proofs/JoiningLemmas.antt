-- A record that is read part by part.
use Rattle.std.proofs.Common.{◌≡◌, ◌≢◌, ℕ, ◌+◌, ◌-◌, ◌*◌, ◌^◌, ◌≤◌, ◌<◌, Bool, true, false, List, [], ◌∷◌, ◌++◌, length, Result, refl, sym, subst, ◌∙◌, ap, arith, append_assoc, append-nil, length-append}
use Rattle.std.proofs.Math.Nat.{mod-lt}
use Rattle.leveldb_base.specs.declared.error.Status.{Status}
use Rattle.leveldb_base.specs.declared.error.StatusCode.TheVariants.{NotSupported}
use Rattle.leveldb_env.specs.Source.{GivesSome, GivesAll}
use Rattle.leveldb_mem.specs.Log.{IsBlockSize, offset_after, IsFragment, record_type, IsRemainder, IsDamagedFragment, fragment_of, NoFragment}
use Rattle.leveldb_mem.proofs.FragmentLemmas.{length-fragment, none_short}
use Rattle.leveldb_mem.proofs.LogLemmas.{last_fragment, offset_after_both, offset_after_none}
use Rattle.leveldb_mem.proofs.CrashLemmas.{breaks_here}
use Rattle.leveldb_mem.specs.Log.Reader.{ReaderState, after_front, IsUnreadThenGiven, HoldsOfRest, at_end, whatever_follows, IsTorn, FindsRecord, FindsEnd, FindsWrongChecksum, GivesTooMuch}
use Rattle.leveldb_mem.specs.Log.Taking.{IsNoFragment, with_unread, TakesPart, TakesDamaged}
use Rattle.leveldb_mem.proofs.ReaderLemmas.{UnreadThenGiven-none, UnreadThenGiven-after, UnreadThenGivenAll-after, HoldsOfRest-after, same_reader}
use Rattle.leveldb_mem.proofs.TakingLemmas.{nothing_before}
use Rattle.leveldb_mem.proofs.BeginningLemmas.{BeginsRecord, begins_none, begins_more, torn_at_none, torn_at_other, torn_without_data}

-- so far parts with this text were read of the record that comes next
pub record Joins {S : Type 0} (gives : S → ℕ → Result (List ℕ) Status → S → Type 0) (old : ReaderState) (source : S) (first : Bool) (now : ReaderState) (at : S) (text : List ℕ) : Type 0 where
  pub front : List ℕ
  pub come : IsUnreadThenGiven (GivesSome gives) old.unread source (front ++ now.unread) at
  pub reader : now ≡ after_front old front now.unread
  pub leads : BeginsRecord old.checked old.size old.offset first front text
  pub begun : first ≡ true → (front ≡ []) × (text ≡ [])
  pub going : first ≡ false → 0 < length front

module _ {S : Type 0} (gives : S → ℕ → Result (List ℕ) Status → S → Type 0) (old : ReaderState) (source : S) (inside : old.offset < old.size) where
  -- none yet
  pub joins_none : Joins gives old source true old source []
  joins_none = record {
    front = [];
    come = UnreadThenGiven-none gives source old.unread;
    reader = ap (λ offset. record old { offset = offset }) (sym (offset_after_none old.size old.offset inside [] refl));
    leads = begins_none old.checked old.size old.offset inside;
    begun = λ e. (refl, refl);
    going = λ e. cc;
  }

  module _ (block : IsBlockSize old.size) (first : Bool) (now : ReaderState) (at : S) (text : List ℕ) (joins : Joins gives old source first now at text) (new : ReaderState) (to : S) where
    abbrev front : List ℕ
    front = joins.front

    there : offset_after old.size old.offset front < old.size
    there = (let large = block.least in mod-lt (old.offset + length front) (omega arith))

    -- what holds at the reader's offset
    at_offset : (P : Bool → ℕ → ℕ → Type 0) → P now.checked now.size now.offset → P old.checked old.size (offset_after old.size old.offset front)
    at_offset P holds = subst (λ r. P r.checked r.size r.offset) joins.reader holds

    some_with : (rest : List ℕ) → 0 < length rest → front ++ rest ≢ []
    some_with rest some e = (let n = ap length e in let both = length-append front rest in omega arith)

    -- the source's end, before the first part
    pub ends_clean : first ≡ true → FindsEnd gives now at new to → FindsEnd gives old source new to × (text ≡ [])
    ends_clean is_first ends =
        let none = (joins.begun is_first).0 in
        let came = UnreadThenGivenAll-after gives front joins.come ends.come in
        let nothing = subst (λ z. IsUnreadThenGiven (GivesAll gives) old.unread source z to) (append-nil front ∙ none) came in
        let before = nothing_before old.unread nothing.given nothing.bytes_are in
        let left = nothing_before now.unread ends.come.given ends.come.bytes_are in (
          record {
            come = nothing;
            reader = ends.reader ∙ joins.reader ∙ same_reader old (offset_after old.size old.offset front) old.offset now.unread old.unread (offset_after_none old.size old.offset inside front none) (left ∙ sym before);
          },
          (joins.begun is_first).1,
        )

    -- and after it
    pub ends_torn : first ≡ false → FindsEnd gives now at new to → HoldsOfRest gives (IsTorn old.checked old.size old.offset) old.unread source to
    ends_torn not_first ends =
        let some = joins.going not_first in
        at_end (front ++ []) (UnreadThenGivenAll-after gives front joins.come ends.come)
        (torn_at_none old.checked old.size old.offset inside block.most first front text joins.leads there [] (λ e. (let n = ap length e in let both = length-append front [] in omega arith))
        (none_short false old.size (offset_after old.size old.offset front) [] (omega arith)))

    -- no fragment
    pub damage_torn : HoldsOfRest gives (IsNoFragment now.size now.offset) now.unread at to → HoldsOfRest gives (IsTorn old.checked old.size old.offset) old.unread source to
    damage_torn shows =
        HoldsOfRest-after gives front now.unread joins.come
        (λ bytes none. torn_at_none old.checked old.size old.offset inside block.most first front text joins.leads there bytes
        (some_bytes bytes none.some) (at_offset (λ checked size offset. NoFragment false size offset bytes) none.none)) shows
      where
        some_bytes : (bytes : List ℕ) → bytes ≢ [] → front ++ bytes ≢ []
        some_bytes [] some = absurd (some refl)
        some_bytes (byte ∷ bytes) some = some_with (byte ∷ bytes) (omega arith)

    -- the reader after a front of what it still has to read
    goes_on : (bytes part : List ℕ) → new ≡ after_front (with_unread now bytes) part new.unread → new ≡ after_front old (front ++ part) new.unread
    goes_on bytes part reader =
        reader ∙ ap {B = ReaderState} (λ r. record r { offset = offset_after r.size r.offset part; unread = new.unread }) joins.reader
        ∙ ap (λ offset. record old { offset = offset; unread = new.unread }) (offset_after_both old.size old.offset front part (front ++ part) refl)

    came_on : (bytes part : List ℕ) → IsUnreadThenGiven (GivesSome gives) now.unread at bytes to → bytes ≡ part ++ new.unread → IsUnreadThenGiven (GivesSome gives) old.unread source ((front ++ part) ++ new.unread) to
    came_on bytes part come cut =
        subst (λ z. IsUnreadThenGiven (GivesSome gives) old.unread source z to) (ap (λ z. front ++ z) cut ∙ sym (append_assoc front part new.unread)) (UnreadThenGiven-after gives front joins.come come)

    -- a wrong checksum
    pub breaks_off : TakesDamaged gives now at new to → FindsWrongChecksum gives old source new to
    breaks_off takes =
        let passes = takes.passes in
        let asked = sym (ap (λ r. r.checked) joins.reader) ∙ passes.asked in
        record {
          front = front ++ passes.front;
          asked = asked;
          come = came_on takes.bytes passes.front takes.come passes.unread;
          breaks = joins.leads.breaks asked passes.front (breaks_here old.size first passes.fragment (offset_after old.size old.offset front) passes.front there (at_offset (λ checked size offset. IsDamagedFragment size passes.fragment offset passes.front) passes.damaged));
          reader = goes_on takes.bytes passes.front passes.reader;
        }

    module _ (type : ℕ) (after : List ℕ) (takes : TakesPart gives now at text type new to after) where
      abbrev part : List ℕ
      part = takes.passes.part

      abbrev bytes : List ℕ
      bytes = takes.passes.front

      is : IsFragment old.checked old.size (fragment_of type part) (offset_after old.size old.offset front) bytes
      is = at_offset (λ checked size offset. IsFragment checked size (fragment_of type part) offset bytes) takes.passes.is_fragment

      come : IsUnreadThenGiven (GivesSome gives) old.unread source ((front ++ bytes) ++ new.unread) to
      come = came_on takes.bytes bytes takes.come takes.passes.unread

      whole : type ≡ record_type first true → IsRemainder old.checked old.size true after old.offset (front ++ bytes)
      whole last =
          subst (λ z. IsRemainder old.checked old.size true z old.offset (front ++ bytes)) (sym takes.passes.text_is)
          (joins.leads.whole part bytes (last_fragment old.checked old.size first (fragment_of type part) (offset_after old.size old.offset front) bytes last is))

      -- all that comes, cut after the part
      cut : (more : List ℕ) → ((front ++ bytes) ++ new.unread) ++ more ≡ front ++ (bytes ++ (new.unread ++ more))
      cut more = append_assoc (front ++ bytes) new.unread more ∙ append_assoc front bytes (new.unread ++ more)

      -- the last part
      pub record_ends : type ≡ record_type first true → after ≢ [] → FindsRecord gives old source after new to
      record_ends last some = record {
        front = front ++ bytes;
        come = come;
        is_record = record { some = some; whole = whole last };
        reader = goes_on takes.bytes bytes takes.passes.reader;
      }

      -- the last part of a record without data
      pub record_empty : type ≡ record_type first true → after ≡ [] → HoldsOfRest gives (IsTorn old.checked old.size old.offset) old.unread source to
      record_empty last none =
          whatever_follows ((front ++ bytes) ++ new.unread) come (λ more. subst (IsTorn old.checked old.size old.offset) (sym (cut more))
          (torn_without_data old.checked old.size old.offset inside block.most first front text joins.leads there (fragment_of type part) bytes is last
          (subst (λ z. IsRemainder old.checked old.size true z old.offset (front ++ bytes)) none (whole last)) (new.unread ++ more)))

      -- a part that has no place
      pub part_torn : type ≢ record_type first true → type ≢ record_type first false → HoldsOfRest gives (IsTorn old.checked old.size old.offset) old.unread source to
      part_torn not_last not_more =
          whatever_follows ((front ++ bytes) ++ new.unread) come (λ more. subst (IsTorn old.checked old.size old.offset) (sym (cut more))
          (torn_at_other old.checked old.size old.offset inside block.most first front text joins.leads there (fragment_of type part) bytes is not_last not_more (new.unread ++ more)))

      -- a part that others follow
      pub joins_more : type ≡ record_type first false → (joined : Joins gives old source false new to after) × (7 + length front ≤ length joined.front)
      joins_more more = (
        record {
          front = front ++ bytes;
          come = come;
          reader = goes_on takes.bytes bytes takes.passes.reader;
          leads = subst (λ z. BeginsRecord old.checked old.size old.offset false (front ++ bytes) z) (sym takes.passes.text_is) (begins_more old.checked old.size old.offset inside block.most first front text joins.leads there (fragment_of type part) bytes is more);
          begun = λ e. cc;
          going = λ e. (let long = length-fragment old.checked old.size (fragment_of type part) (offset_after old.size old.offset front) bytes is in let both = length-append front bytes in omega arith);
        },
        let long = length-fragment old.checked old.size (fragment_of type part) (offset_after old.size old.offset front) bytes is in let both = length-append front bytes in omega arith,
      )

    -- more fragments than can be counted
    pub stops_long : 7 * (2 ^ 64 - 1) ≤ length front → length old.unread ≤ old.size → (status : Status) → status.code ≡ NotSupported → GivesTooMuch gives source status at
    stops_long long unread status code =
        let came = ap length joins.come.bytes_are in
        let left = length-append front now.unread in
        let right = length-append old.unread joins.come.given in
        record { code = code; bytes = joins.come.given; given_before = joins.come.reads; many = omega (arith, came, left, right, block.most, unread, long) }
