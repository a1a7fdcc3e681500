-- How a reader takes a fragment.
use Rattle.std.proofs.Common.{◌≡◌, ◌⊎◌, ⊎_elim, ℕ, suc, ◌+◌, ◌*◌, ◌-◌, ◌%◌, ◌<◌, ◌≤◌, Bool, true, false, List, [], ◌∷◌, ◌++◌, length, take, drop, slice_index, refl, sym, subst, ◌∙◌, ap, arith, ◌≢◌, replicate, length-append, Result, append-nil, append_assoc}
use Rattle.std.proofs.lemmas.List.{length-take-le, take-append-drop, length-replicate, drop_all, append_cancel_left}
use Rattle.std.specs.List.{All}
use Rattle.std.proofs.lemmas.List.Elements.{All-head, All-tail, All-replicate, All-same}
use Rattle.std.proofs.Math.Nat.{mod_self, add-mod_left}
use Rattle.std.specs.Borrow.{Bor}
use Rattle.leveldb_base.specs.Crc.{crc_of, masked}
use Rattle.leveldb_base.specs.Varint.{little}
use Rattle.leveldb_base.specs.declared.error.Status.{Status}
use Rattle.leveldb_env.specs.Source.{GivesSome, GivesAll}
use Rattle.leveldb_mem.specs.Log.{room, checksum, IsChecksum, IsFragment, IsDamagedFragment, fragment_of, filler, NoFragment, offset_after, Fragment, fragment_bytes}
use Rattle.leveldb_mem.proofs.FragmentLemmas.{filler-fits, room-fits, headed, headed_fragment, headed_damaged, filler-ends, none_short, none_unfilled, none_past_block, none_cut_short, room-ends}
use Rattle.leveldb_mem.specs.Log.Reader.{ReaderState, after_front, IsUnreadThenGiven, at_end, HoldsOfRest, FindsEnd}
use Rattle.leveldb_mem.specs.Log.Taking.{declared_length, HasRightChecksum, PassesPart, PassesDamaged, IsNoFragment, PassesFragment, with_unread, SkipsFiller, TakesNext}
use Rattle.leveldb_mem.specs.declared.log.reader.Taken.{Taken}
use Rattle.leveldb_mem.specs.declared.log.reader.Taken.TheVariants.{End, Part, WrongChecksum, Damage}
use Rattle.leveldb_mem.proofs.ReaderLemmas.{same_reader, UnreadThenGiven-after, UnreadThenGivenAll-after, HoldsOfRest-after}

-- ---- a fragment at the front of what is to be read

-- a header and so much data at the front of some bytes
pub record IsHeaded (unread : List ℕ) (count : ℕ) : Type 0 where
  pub sum : List ℕ
  pub low : ℕ
  pub high : ℕ
  pub type : ℕ
  pub part : List ℕ
  pub four : length sum ≡ 4
  pub counted : length part ≡ count
  pub front_is : take (7 + count) unread ≡ sum ++ low ∷ high ∷ type ∷ part
  pub low_is : slice_index unread 4 ≡ low
  pub high_is : slice_index unread 5 ≡ high
  pub type_is : slice_index (take (7 + count) unread) 6 ≡ type
  pub sum_is : take 4 (take (7 + count) unread) ≡ sum
  pub summed_is : drop 6 (take (7 + count) unread) ≡ type ∷ part
  pub part_is : drop 7 (take (7 + count) unread) ≡ part

pub headed_front : (unread : List ℕ) (count : ℕ) → 7 + count ≤ length unread → IsHeaded unread count
headed_front (a ∷ b ∷ c ∷ d ∷ low ∷ high ∷ type ∷ rest) count long =
    let bytes : List ℕ = a ∷ b ∷ c ∷ d ∷ low ∷ high ∷ type ∷ rest in
    let n : 7 + count ≡ suc (suc (suc (suc (suc (suc (suc count)))))) = omega arith in
    let cut : take (7 + count) bytes ≡ a ∷ b ∷ c ∷ d ∷ low ∷ high ∷ type ∷ take count rest = ap (λ k. take k bytes) n in
    record {
      sum = a ∷ b ∷ c ∷ d ∷ [];
      low = low;
      high = high;
      type = type;
      part = take count rest;
      four = refl;
      counted = length-take-le count rest (omega arith);
      front_is = cut;
      low_is = refl;
      high_is = refl;
      type_is = ap (λ z. slice_index z 6) cut;
      sum_is = ap (take 4) cut;
      summed_is = ap (drop 6) cut;
      part_is = ap (drop 7) cut;
    }
headed_front unread count long = absurd (omega arith)

module _ (old : ReaderState) (count : ℕ) (wide : 7 ≤ old.size - old.offset) (told : count ≡ declared_length old.unread) (bytes : slice_index old.unread 4 < 256 × (slice_index old.unread 5 < 256))
    (within : old.offset + (7 + count) ≤ old.size) (there : 7 + count ≤ length old.unread) where
  abbrev is : IsHeaded old.unread count
  is = headed_front old.unread count there

  abbrev front : List ℕ
  front = take (7 + count) old.unread

  length_declared : length is.part ≡ is.low + 256 * is.high
  length_declared = is.counted ∙ told ∙ ap (λ n. n + 256 * slice_index old.unread 5) is.low_is ∙ ap (λ n. is.low + 256 * n) is.high_is

  fits : length is.part ≤ room old.size old.offset
  fits = (let most = room-fits old.size old.offset wide in let counted = is.counted in omega arith)

  headed_is : headed old.size old.offset is.sum is.part is.low is.high is.type ≡ front
  headed_is = ap (λ z. z ++ (is.sum ++ is.low ∷ is.high ∷ is.type ∷ is.part)) (filler-fits old.size old.offset wide) ∙ sym is.front_is

  low_byte : is.low < 256
  low_byte = subst (λ n. n < 256) is.low_is bytes.0

  high_byte : is.high < 256
  high_byte = subst (λ n. n < 256) is.high_is bytes.1

  right_sum : HasRightChecksum front → is.sum ≡ checksum (fragment_of is.type is.part)
  unfolding checksum
  right_sum right = sym is.sum_is ∙ right ∙ ap (λ z. little 4 (masked (crc_of z))) is.summed_is

  sum_right : is.sum ≡ checksum (fragment_of is.type is.part) → HasRightChecksum front
  unfolding checksum
  sum_right e = is.sum_is ∙ e ∙ ap (λ z. little 4 (masked (crc_of z))) (sym is.summed_is)

  module _ (new : ReaderState) (passed : new ≡ (let r : ReaderState = record old { offset = (old.offset + (7 + count)) % old.size; unread = drop (7 + count) old.unread } in r)) where
    goes_on_after : new ≡ after_front old front new.unread
    goes_on_after =
        let unread_is = ap (λ r. r.unread) passed in
        let n = length-take-le (7 + count) old.unread there in
        passed ∙ ap (λ n. record old { offset = (old.offset + n) % old.size; unread = drop (7 + count) old.unread }) (sym n) ∙ ap (λ z. after_front old front z) (sym unread_is)

    unread_is : old.unread ≡ front ++ new.unread
    unread_is = sym (take-append-drop (7 + count) old.unread) ∙ ap (λ z. front ++ z) (sym (ap (λ r. r.unread) passed))

    part_passed : (text after : List ℕ) → (old.checked ≡ false) ⊎ HasRightChecksum front → after ≡ text ++ drop 7 front → PassesPart old text (slice_index front 6) new after
    part_passed text after right after_is = record {
      front = front;
      part = is.part;
      unread = unread_is;
      is_fragment = subst (λ type. IsFragment old.checked old.size (fragment_of type is.part) old.offset front) (sym is.type_is) (subst (IsFragment old.checked old.size (fragment_of is.type is.part) old.offset) headed_is
          (headed_fragment old.size old.offset is.sum is.part is.low is.high is.type old.checked length_declared low_byte high_byte fits summed));
      text_is = after_is ∙ ap (λ z. text ++ z) is.part_is;
      reader = goes_on_after;
    }
      where
        summed : IsChecksum old.checked (fragment_of is.type is.part) is.sum
        summed = by_asked old.checked right
          where
            by_asked : (asked : Bool) → (asked ≡ false) ⊎ HasRightChecksum front → IsChecksum asked (fragment_of is.type is.part) is.sum
            by_asked true right = ⊎_elim (λ (e : true ≡ false). absurd (let no : ⊥ = cc in no)) right_sum right
            by_asked false right = is.four

    damaged_passed : old.checked ≡ true → (HasRightChecksum front → ⊥) → PassesDamaged old new
    damaged_passed asked wrong = record {
      front = front;
      fragment = fragment_of is.type is.part;
      asked = asked;
      unread = unread_is;
      damaged = subst (IsDamagedFragment old.size (fragment_of is.type is.part) old.offset) headed_is
          (headed_damaged old.size old.offset is.sum is.part is.low is.high is.type is.four length_declared low_byte high_byte fits (λ e. wrong (sum_right e)));
      reader = goes_on_after;
    }

    -- where its checksum is taken, or is wrong
    pub passes_part : (fragment : List ℕ) → fragment ≡ front → (text after : List ℕ) → (old.checked ≡ false) ⊎ HasRightChecksum fragment → after ≡ text ++ drop 7 fragment → PassesPart old text (slice_index fragment 6) new after
    passes_part fragment is_front text after =
        subst (λ z. (old.checked ≡ false) ⊎ HasRightChecksum z → after ≡ text ++ drop 7 z → PassesPart old text (slice_index z 6) new after) (sym is_front) (part_passed text after)

    pub passes_damaged : (fragment : List ℕ) → fragment ≡ front → old.checked ≡ true → (HasRightChecksum fragment → ⊥) → PassesDamaged old new
    passes_damaged fragment is_front asked = subst (λ z. (HasRightChecksum z → ⊥) → PassesDamaged old new) (sym is_front) (damaged_passed asked)

-- ---- what comes in place of a fragment

pub some_from_length : (bytes : List ℕ) → 0 < length bytes → bytes ≢ []
some_from_length bytes some e = (let none = ap length e in omega arith)

-- the bytes that are zeros
pub zeros_are : (bytes : List ℕ) → All (λ byte. byte ≡ 0) bytes → bytes ≡ replicate (length bytes) 0
zeros_are [] zeros = refl
zeros_are (byte ∷ bytes) zeros = ap (λ z. z ∷ bytes) (All-head (λ z. z ≡ 0) byte bytes zeros) ∙ ap (λ z. 0 ∷ z) (zeros_are bytes (All-tail (λ z. z ≡ 0) byte bytes zeros))

module _ (size offset : ℕ) where
  -- fewer bytes than a header has
  pub none_in_few : (bytes : List ℕ) → bytes ≢ [] → length bytes < 7 → IsNoFragment size offset bytes
  none_in_few bytes some few = record { some = some; none = none_short false size offset bytes (omega arith) }

  module _ (narrow : size - offset < 7) (inside : offset < size) where
    pub length-filler : length (filler size offset) ≡ size - offset
    length-filler = ap length (filler-ends size offset narrow) ∙ length-replicate (size - offset) 0

    -- filler that isn't zero
    pub none_unless_filler : (bytes : List ℕ) → length bytes ≡ size - offset → (All (λ byte. byte ≡ 0) bytes → ⊥) → (more : List ℕ) → IsNoFragment size offset (bytes ++ more)
    none_unless_filler bytes count other more = record {
      some = some_from_length (bytes ++ more) (omega (arith, length-append bytes more));
      none = none_unfilled false size offset bytes more (count ∙ sym length-filler)
          (λ e. other (All-same (λ z. z ≡ 0) bytes (replicate (size - offset) 0) (e ∙ filler-ends size offset narrow) (All-replicate (λ z. z ≡ 0) (size - offset) 0 refl)));
    }

    -- zeros up to the block's end are filler
    pub filler_is : (bytes : List ℕ) → length bytes ≡ size - offset → All (λ byte. byte ≡ 0) bytes → bytes ≡ filler size offset
    filler_is bytes count zeros = zeros_are bytes zeros ∙ ap (λ n. replicate n 0) count ∙ sym (filler-ends size offset narrow)

  module _ (fits : size ≤ 32768) (wide : 7 ≤ size - offset) where
    without_filler : (sum part : List ℕ) (low high type : ℕ) → headed size offset sum part low high type ≡ sum ++ low ∷ high ∷ type ∷ part
    without_filler sum part low high type = ap (λ z. z ++ (sum ++ low ∷ high ∷ type ∷ part)) (filler-fits size offset wide)

    -- a fragment past its block
    pub none_past : (bytes : List ℕ) → 7 ≤ length bytes → size - offset - 7 < declared_length bytes → (more : List ℕ) → IsNoFragment size offset (bytes ++ more)
    none_past (a ∷ b ∷ c ∷ d ∷ low ∷ high ∷ type ∷ part) long past more = record {
      some = λ e. cc;
      none = subst (NoFragment false size offset) (without_filler (a ∷ b ∷ c ∷ d ∷ []) (part ++ more) low high type)
          (none_past_block size offset (a ∷ b ∷ c ∷ d ∷ []) (part ++ more) low high type false fits refl (omega (arith, room-fits size offset wide)));
    }
    none_past bytes long past more = absurd (omega arith)

    -- data cut short
    pub none_cut : (bytes : List ℕ) → 7 ≤ length bytes → length bytes < 7 + declared_length bytes → IsNoFragment size offset bytes
    none_cut (a ∷ b ∷ c ∷ d ∷ low ∷ high ∷ type ∷ part) long cut = record {
      some = λ e. cc;
      none = subst (NoFragment false size offset) (without_filler (a ∷ b ∷ c ∷ d ∷ []) part low high type)
          (none_cut_short size offset (a ∷ b ∷ c ∷ d ∷ []) part low high type false fits refl (omega arith));
    }
    none_cut bytes long cut = absurd (omega arith)

declared_length-append : (bytes more : List ℕ) → 7 ≤ length bytes → declared_length (bytes ++ more) ≡ declared_length bytes
declared_length-append (a ∷ b ∷ c ∷ d ∷ low ∷ high ∷ bytes) more long = refl
declared_length-append bytes more long = absurd (omega arith)

-- what the header says stays the same when more comes
pub declared_again : {S : Type 0} {Gives : S → List ℕ → S → Type 0} {mid to : S} (bytes longer seen : List ℕ) (count : ℕ) → 7 ≤ length bytes → IsUnreadThenGiven Gives bytes mid longer to → count ≡ declared_length seen → seen ≡ bytes
    → (7 ≤ length longer) × (count ≡ declared_length longer)
declared_again bytes longer seen count long come told same =
    let whole = ap length come.bytes_are in
    let both = length-append bytes come.given in
    (omega arith, told ∙ ap declared_length same ∙ sym (declared_length-append bytes come.given long) ∙ ap declared_length (sym come.bytes_are))

header-append : (bytes more : List ℕ) → 7 ≤ length bytes → (slice_index (bytes ++ more) 4 ≡ slice_index bytes 4) × (slice_index (bytes ++ more) 5 ≡ slice_index bytes 5)
header-append (a ∷ b ∷ c ∷ d ∷ low ∷ high ∷ bytes) more long = (refl, refl)
header-append bytes more long = absurd (omega arith)

-- and its numbers are bytes still
pub bytes_again : {S : Type 0} {Gives : S → List ℕ → S → Type 0} {mid to : S} (bytes longer seen : List ℕ) → 7 ≤ length bytes → IsUnreadThenGiven Gives bytes mid longer to
    → (slice_index seen 4 < 256) × (slice_index seen 5 < 256) → seen ≡ bytes → (slice_index longer 4 < 256) × (slice_index longer 5 < 256)
bytes_again bytes longer seen long come are_bytes same =
    let again = header-append bytes come.given long in
    rw (come.bytes_are, again.0, again.1, ← same) are_bytes

-- ---- what a reader takes next

pub nothing_before : (unread given : List ℕ) → [] ≡ unread ++ given → unread ≡ []
nothing_before [] given e = refl
nothing_before (x ∷ unread) given e = cc

module _ {S : Type 0} (gives : S → ℕ → Result (List ℕ) Status → S → Type 0) (old new : ReaderState) (source to : S) where
  -- at the source's end nothing comes, or fewer bytes than a header has
  pub takes_end : new ≡ with_unread old new.unread → IsUnreadThenGiven (GivesAll gives) old.unread source new.unread to → length new.unread < 7 → (taken : Taken) (cause : Bor (List ℕ)) (text : List ℕ)
      → (new.unread ≡ [] → taken ≡ End) → (new.unread ≢ [] → taken ≡ Damage cause) → TakesNext gives taken old source text new to text
  takes_end reader come few taken cause text ended damaged = by_bytes new.unread refl
    where
      by_bytes : (bytes : List ℕ) → new.unread ≡ bytes → TakesNext gives taken old source text new to text
      by_bytes [] none =
          let nothing = subst (λ z. IsUnreadThenGiven (GivesAll gives) old.unread source z to) none come in
          let before = nothing_before old.unread nothing.given nothing.bytes_are in
          subst (λ t. TakesNext gives t old source text new to text) (sym (ended none))
          (record { come = nothing; reader = reader ∙ ap (with_unread old) (none ∙ sym before) }, refl)
      by_bytes (byte ∷ bytes) some =
          let others : new.unread ≢ [] = λ none. (let no : byte ∷ bytes ≡ [] = sym some ∙ none in cc) in
          subst (λ t. TakesNext gives t old source text new to text) (sym (damaged others))
          (at_end new.unread come (none_in_few old.size old.offset new.unread others few))

module _ {S : Type 0} (gives : S → ℕ → Result (List ℕ) Status → S → Type 0) (old mid new : ReaderState) (source to : S) (narrow : old.size - old.offset < 7) (inside : old.offset < old.size)
    (reader : mid ≡ with_unread old mid.unread) (come : IsUnreadThenGiven (GivesSome gives) old.unread source mid.unread to) (count : length mid.unread ≡ old.size - old.offset) where
  -- zeros that come up to the block's end are skipped
  pub skips_filler : All (λ byte. byte ≡ 0) mid.unread → (space : ℕ) → space ≡ old.size - old.offset → new ≡ (let r : ReaderState = record mid { offset = (mid.offset + space) % mid.size; unread = drop space mid.unread } in r)
      → SkipsFiller gives old source new to
  skips_filler zeros space left passed =
      let unread_is = ap (λ r. r.unread) passed in
      let none : new.unread ≡ [] = unread_is ∙ drop_all space mid.unread (omega arith) in
      let full : old.offset + space ≡ old.size = omega arith in
      let start : (mid.offset + space) % mid.size ≡ 0 = ap (λ r. (r.offset + space) % r.size) reader ∙ ap (λ n. n % old.size) full ∙ mod_self old.size in
      let filled = filler_is old.size old.offset narrow inside mid.unread count zeros ∙ sym (append-nil (filler old.size old.offset)) ∙ ap (λ z. filler old.size old.offset ++ z) (sym none) in
      record {
        come = subst (λ z. IsUnreadThenGiven (GivesSome gives) old.unread source z to) filled come;
        reader = passed ∙ ap {B = ReaderState} (λ r. record r { offset = (mid.offset + space) % mid.size; unread = drop space mid.unread }) reader ∙ same_reader old ((mid.offset + space) % mid.size) 0 (drop space mid.unread) new.unread start (sym unread_is);
      }

module _ {S : Type 0} (gives : S → ℕ → Result (List ℕ) Status → S → Type 0) (old mid new : ReaderState) (source to : S) (text after : List ℕ) where
  -- what was passed of what came was taken
  pub takes_passed : (bytes : List ℕ) → IsUnreadThenGiven (GivesSome gives) old.unread source bytes to → mid ≡ with_unread old bytes → (taken : Taken) → PassesFragment taken mid text new after → TakesNext gives taken old source text new to after
  takes_passed bytes come reader (Part type) passes = record { bytes = bytes; come = come; passes = subst (λ r. PassesPart r text type new after) reader passes }
  takes_passed bytes come reader WrongChecksum passes = record { bytes = bytes; come = come; passes = subst (λ r. PassesDamaged r new) reader passes }
  takes_passed bytes come reader End passes = elim passes [ ]
  takes_passed bytes come reader (Damage cause) passes = elim passes [ ]

-- ---- what comes after the filler at a block's end

module _ (size offset : ℕ) (large : 8 ≤ size) (narrow : size - offset < 7) (inside : offset < size) where
  abbrev zeros : List ℕ
  zeros = filler size offset

  same_room : room size 0 ≡ room size offset
  same_room = room-fits size 0 (omega arith) ∙ (let same : size - 0 - 7 ≡ size - 7 = omega arith in same) ∙ sym (room-ends size offset narrow)

  -- the offset after filler and a front
  pub after_zeros : (front : List ℕ) → offset_after size 0 front ≡ offset_after size offset (zeros ++ front)
  after_zeros front =
      let count = length-filler size offset narrow inside in
      let both = length-append zeros front in
      let total : offset + length (zeros ++ front) ≡ size + length front = omega arith in
      let start : 0 + length front ≡ length front = omega arith in
      ap (λ n. n % size) start ∙ sym (add-mod_left size (length front)) ∙ ap (λ n. n % size) (sym total)

  module _ (checked : Bool) (f : Fragment) where
    at_start : (front : List ℕ) (is : IsFragment checked size f 0 front) → front ≡ fragment_bytes is.sum f
    at_start front is = is.bytes_are ∙ ap (λ z. z ++ fragment_bytes is.sum f) (filler-fits size 0 (omega arith))

    -- a fragment at a block's start comes after filler too
    pub fragment_after : (front : List ℕ) → IsFragment checked size f 0 front → IsFragment checked size f offset (zeros ++ front)
    fragment_after front is = record { sum = is.sum; within = subst (λ n. length f.part ≤ n) same_room is.within; summed = is.summed; bytes_are = ap (λ z. zeros ++ z) (at_start front is) }

    -- and one after filler at a block's start
    pub fragment_before : (front : List ℕ) (is : IsFragment checked size f offset front) → IsFragment checked size f 0 (fragment_bytes is.sum f)
    fragment_before front is = record {
      sum = is.sum;
      within = subst (λ n. length f.part ≤ n) (sym same_room) is.within;
      summed = is.summed;
      bytes_are = sym (ap (λ z. z ++ fragment_bytes is.sum f) (filler-fits size 0 (omega arith)));
    }

  pub damaged_after : (f : Fragment) (front : List ℕ) → IsDamagedFragment size f 0 front → IsDamagedFragment size f offset (zeros ++ front)
  unfolding fragment_after
  damaged_after f front is = record { unchecked = fragment_after false f front is.unchecked; wrong = is.wrong }

  -- no fragment after filler is none
  pub none_after_zeros : (bytes : List ℕ) → IsNoFragment size 0 bytes → IsNoFragment size offset (zeros ++ bytes)
  none_after_zeros bytes none = record {
    some = some_from_length (zeros ++ bytes) (omega (arith, length-append zeros bytes, length-filler size offset narrow inside));
    none = λ f front more e is.
        (let there = append_cancel_left zeros bytes (fragment_bytes is.sum f ++ more) (e ∙ ap (λ z. z ++ more) is.bytes_are ∙ append_assoc zeros (fragment_bytes is.sum f) more) in
        none.none f (fragment_bytes is.sum f) more there (fragment_before false f front is));
  }

module _ {S : Type 0} (gives : S → ℕ → Result (List ℕ) Status → S → Type 0) (old mid new : ReaderState) (source s to : S) (large : 8 ≤ old.size) (narrow : old.size - old.offset < 7) (inside : old.offset < old.size)
    (skips : SkipsFiller gives old source mid s) where
  abbrev before : List ℕ
  before = filler old.size old.offset

  goes_on_after_filler : (front : List ℕ) → new ≡ after_front mid front new.unread → new ≡ after_front old (before ++ front) new.unread
  goes_on_after_filler front reader =
      reader ∙ ap {B = ReaderState} (λ r. record r { offset = offset_after r.size r.offset front; unread = new.unread }) skips.reader
      ∙ ap (λ offset. record old { offset = offset; unread = new.unread }) (after_zeros old.size old.offset large narrow inside front)

  -- what is taken after filler, and isn't the end, is taken with it
  pub takes_after : (taken : Taken) (text after : List ℕ) → (taken ≡ End → ⊥) → TakesNext gives taken mid s text new to after → TakesNext gives taken old source text new to after
  takes_after (Part type) text after more takes =
      let passes = takes.passes in
      record {
        bytes = before ++ takes.bytes;
        come = UnreadThenGiven-after gives before skips.come takes.come;
        passes = record {
          front = before ++ passes.front;
          part = passes.part;
          unread = ap (λ z. before ++ z) passes.unread ∙ sym (append_assoc before passes.front new.unread);
          is_fragment = fragment_after old.size old.offset large narrow inside old.checked (fragment_of type passes.part) passes.front
              (subst (λ r. IsFragment r.checked r.size (fragment_of type passes.part) r.offset passes.front) skips.reader passes.is_fragment);
          text_is = passes.text_is;
          reader = goes_on_after_filler passes.front passes.reader;
        };
      }
  takes_after WrongChecksum text after more takes =
      let passes = takes.passes in
      record {
        bytes = before ++ takes.bytes;
        come = UnreadThenGiven-after gives before skips.come takes.come;
        passes = record {
          front = before ++ passes.front;
          fragment = passes.fragment;
          asked = sym (ap (λ r. r.checked) skips.reader) ∙ passes.asked;
          unread = ap (λ z. before ++ z) passes.unread ∙ sym (append_assoc before passes.front new.unread);
          damaged = damaged_after old.size old.offset large narrow inside passes.fragment passes.front
              (subst (λ r. IsDamagedFragment r.size passes.fragment r.offset passes.front) skips.reader passes.damaged);
          reader = goes_on_after_filler passes.front passes.reader;
        };
      }
  takes_after (Damage cause) text after more takes =
      HoldsOfRest-after gives before mid.unread skips.come
      (λ bytes none. none_after_zeros old.size old.offset large narrow inside bytes (subst (λ r. IsNoFragment r.size r.offset bytes) skips.reader none)) takes
  takes_after End text after more takes = absurd (more refl)

  -- nothing after filler is no end
  pub no_end_after : FindsEnd gives mid s new to → HoldsOfRest gives (IsNoFragment old.size old.offset) old.unread source to
  no_end_after ends =
      let count = length-filler old.size old.offset narrow inside in
      let both = length-append before [] in
      at_end (before ++ []) (UnreadThenGivenAll-after gives before skips.come ends.come) (none_in_few old.size old.offset (before ++ []) (some_from_length (before ++ []) (omega arith)) (omega arith))
