-- Heaps of which the live block of one serial has other bytes: each call does to them what it does to the others.
use Rattle.tlsf_heap.proofs.Common.{◌≡◌, ◌≢◌, ℕ, suc, ◌+◌, ◌-◌, ◌≤◌, Bool, true, false, cond, eqb, nat_le, nat_lt, List, [], ◌∷◌, ◌++◌, ◌&&◌, length, take, drop, find, Option, Some, None, Ok, refl, sym, ap, ◌∙◌, subst, arith, IsSome, AllByRecursion, false≢true, eqb-true, ne_eqb, nat_tests, AreDistinct, Block, Live, Free, HeapState, size_of, bytes_of, words_in, serials, Site, sites_behind, block_at, Outcome, refused, is_worn, has_serial, is_named, named, first_free, past_free, last_free, before_free, coalesced, released, released_at, ticked, with_bytes, with_blocks, overwritten, has_bytes, written, written_at, recut, is_sized, room_of, refitted, resized_words, resized_at, fitted, bytes_at, payload_of, IsLawful, IsLive, IsNamed, with_payload, with_payload_at, Name, Worn, Foreign, Range, NoRoom}
use Rattle.tlsf_heap.proofs.lemmas.calls.Alter.{named_of, payload_is}
use Rattle.tlsf_heap.proofs.lemmas.calls.Allocate.{split_at}
use Rattle.tlsf_heap.proofs.lemmas.blocks.Coalesce.{by_last}
use Rattle.tlsf_heap.proofs.lemmas.blocks.LastFree.{ends_free, ends_live}
use Rattle.tlsf_heap.proofs.lemmas.blocks.Find.{and_left}
use Rattle.tlsf_heap.proofs.lemmas.laws.Gone.{distinct_from}
use Rattle.tlsf_heap.proofs.lemmas.blocks.Lawful.{serials-append}
use Rattle.tlsf_heap.proofs.lemmas.calls.Named.{named_is, at_name}
use Rattle.tlsf_heap.proofs.lemmas.calls.Outcomes.{named_site, takes, resizes}

module _ (serial : ℕ) (new : List ℕ) where
  -- the block, with these bytes if it has this serial
  abbrev pub rebyte : Block → Block
  rebyte (Live m s xs) = Live m s (cond (eqb s serial) new xs)
  rebyte (Free m s) = Free m s

  abbrev pub rebytes : List Block → List Block
  rebytes [] = []
  rebytes (b ∷ bs) = rebyte b ∷ rebytes bs

  abbrev pub rebyted : HeapState → HeapState
  rebyted h = with_blocks h (rebytes h.blocks)

  abbrev at_site : Site → Site
  at_site s = record { before = rebytes s.before; block = rebyte s.block; after = rebytes s.after }

  abbrev on_site : Option Site → Option Site
  on_site None = None
  on_site (Some s) = Some (at_site s)

  pub rebytes-append : (xs ys : List Block) → rebytes (xs ++ ys) ≡ rebytes xs ++ rebytes ys
  rebytes-append [] ys = refl
  rebytes-append (x ∷ xs) ys = ap (λ (l : List Block). rebyte x ∷ l) (rebytes-append xs ys)

  -- ---- what stays

  size_rebyte : (b : Block) → size_of (rebyte b) ≡ size_of b
  size_rebyte (Live m s xs) = refl
  size_rebyte (Free m s) = refl

  words_rebytes : (bs : List Block) → words_in (rebytes bs) ≡ words_in bs
  words_rebytes [] = refl
  words_rebytes (b ∷ bs) = omega (arith, size_rebyte b, words_rebytes bs)

  serial_rebyte : (other : ℕ) (b : Block) → has_serial other (rebyte b) ≡ has_serial other b
  serial_rebyte other (Live m s xs) = refl
  serial_rebyte other (Free m s) = refl

  first_rebytes : (bs : List Block) → first_free (rebytes bs) ≡ first_free bs
  first_rebytes [] = refl
  first_rebytes (Live m s xs ∷ bs) = refl
  first_rebytes (Free m s ∷ bs) = refl

  past_rebytes : (bs : List Block) → past_free (rebytes bs) ≡ rebytes (past_free bs)
  past_rebytes [] = refl
  past_rebytes (Live m s xs ∷ bs) = refl
  past_rebytes (Free m s ∷ bs) = refl

  last_rebytes : (bs : List Block) → (last_free (rebytes bs) ≡ last_free bs) × (before_free (rebytes bs) ≡ rebytes (before_free bs))
  last_rebytes bs = by_last (λ all k left. (last_free (rebytes all) ≡ k) × (before_free (rebytes all) ≡ rebytes left)) bs (refl, refl)
      (λ all m s xs.
      let is = rebytes-append all (Live m s xs ∷ []) in
      let ends = ends_live (rebytes all) m s (cond (eqb s serial) new xs) in
      (ap last_free is ∙ ends.0, ap before_free is ∙ ends.1 ∙ sym is))
      (λ all m s.
      let is = rebytes-append all (Free m s ∷ []) in
      let ends = ends_free (rebytes all) m s in
      (ap last_free is ∙ ends.0, ap before_free is ∙ ends.1))

  -- no block of other serials changes
  pub rebytes-none : (bs : List Block) → AllByRecursion (λ y. y ≢ serial) (serials bs) → rebytes bs ≡ bs
  rebytes-none [] all = refl
  rebytes-none (Live m s xs ∷ bs) all = ap (λ (c : Bool). Live m s (cond c new xs) ∷ rebytes bs) (ne_eqb s serial all.0) ∙ ap (λ (l : List Block). Live m s xs ∷ l) (rebytes-none bs all.1)
  rebytes-none (Free m s ∷ bs) all = ap (λ (l : List Block). Free m s ∷ l) (rebytes-none bs all)

  pub rebyte_own : (b : Block) → has_serial serial b ≡ true → rebyte b ≡ with_bytes b new
  rebyte_own (Live m s xs) own = ap (λ (c : Bool). Live m s (cond c new xs)) own
  rebyte_own (Free m s) own = refl

  -- ---- the search for a name

  named_behind : (at other : ℕ) (p bs : List Block) → find (is_named at other) (sites_behind (rebytes p) (rebytes bs)) ≡ on_site (find (is_named at other) (sites_behind p bs))
  named_behind at other p [] = refl
  named_behind at other p (b ∷ bs) =
      let s : Site = record { before = p; block = b; after = bs } in
      let more : List Block → Option Site = λ (l : List Block). find (is_named at other) (sites_behind l (rebytes bs)) in
      let same : is_named at other (at_site s) ≡ is_named at other s = ap (λ (c : Bool). c && eqb (words_in (rebytes p)) at) (serial_rebyte other b) ∙ ap (λ (k : ℕ). has_serial other b && eqb k at) (words_rebytes p) in
      ap (λ (c : Bool). cond c (Some (at_site s)) (more (rebytes p ++ rebyte b ∷ []))) same
      ∙ ap (λ (o : Option Site). cond (is_named at other s) (Some (at_site s)) o) (ap more (sym (rebytes-append p (b ∷ []))) ∙ named_behind at other (p ++ b ∷ []) bs)
      ∙ either (is_named at other s) s (find (is_named at other) (sites_behind (p ++ b ∷ []) bs))
    where
      either : (c : Bool) (s : Site) (o : Option Site) → cond c (Some (at_site s)) (on_site o) ≡ on_site (cond c (Some s) o)
      either true s o = refl
      either false s o = refl

  pub named_rebytes : (name : Name) (bs : List Block) → named name (rebytes bs) ≡ on_site (named name bs)
  named_rebytes name bs = named_behind name.at name.serial [] bs

  still : (o : Option Site) → IsSome o → IsSome (on_site o)
  still None some = some
  still (Some s) some = refl

  pub live_rebyted : (h : HeapState) (name : Name) → IsLive h name → IsLive (rebyted h) name
  live_rebyted h name live = (live.0, subst IsSome (sym (named_rebytes name h.blocks)) (still (named name h.blocks) live.1))

  -- ---- a release

  coalesced_rebytes : (tick : ℕ) (s : Site) → coalesced tick (at_site s) ≡ rebytes (coalesced tick s)
  coalesced_rebytes tick s =
      let last = last_rebytes s.before in
      let free : List Block → ℕ → List Block → List Block = λ a k c. a ++ Free k tick ∷ c in
      ap (λ (a : List Block). free a (last_free (rebytes s.before) + size_of (rebyte s.block) + first_free (rebytes s.after)) (past_free (rebytes s.after))) last.1
      ∙ ap (λ (k : ℕ). free (rebytes (before_free s.before)) k (past_free (rebytes s.after))) (omega (arith, last.0, size_rebyte s.block, first_rebytes s.after))
      ∙ ap (λ (c : List Block). free (rebytes (before_free s.before)) (last_free s.before + size_of s.block + first_free s.after) c) (past_rebytes s.after)
      ∙ sym (rebytes-append (before_free s.before) (Free (last_free s.before + size_of s.block + first_free s.after) tick ∷ past_free s.after))

  released_site : (h : HeapState) (o : Option Site) → (released_at (rebyted h) (on_site o)).heap ≡ rebyted (released_at h o).heap
  released_site h None = refl
  released_site h (Some s) = at (is_worn h)
    where
      at : (c : Bool) → (cond c (refused (rebyted h) Worn) (takes (rebyted h) (at_site s))).heap ≡ rebyted (cond c (refused h Worn) (takes h s)).heap
      at true = refl
      at false = ap (ticked h) (coalesced_rebytes h.tick s)

  pub released_rebyted : (h : HeapState) (name : Name) → (released (rebyted h) name).heap ≡ rebyted (released h name).heap
  released_rebyted h name = ap (λ (o : Option Site). (cond (eqb name.heap h.id) (released_at (rebyted h) o) (refused (rebyted h) Foreign)).heap) (named_rebytes name h.blocks) ∙ at (eqb name.heap h.id)
    where
      at : (c : Bool) → (cond c (released_at (rebyted h) (on_site (named name h.blocks))) (refused (rebyted h) Foreign)).heap ≡ rebyted (cond c (released_at h (named name h.blocks)) (refused h Foreign)).heap
      at true = released_site h (named name h.blocks)
      at false = refl

-- the last bytes stay
pub rebytes-twice : (serial : ℕ) (old new : List ℕ) (bs : List Block) → rebytes serial new (rebytes serial old bs) ≡ rebytes serial new bs
rebytes-twice serial old new [] = refl
rebytes-twice serial old new (Live m s xs ∷ bs) = ap (λ (ys : List ℕ). Live m s ys ∷ rebytes serial new (rebytes serial old bs)) (last (eqb s serial)) ∙ ap (λ (l : List Block). rebyte serial new (Live m s xs) ∷ l) (rebytes-twice serial old new bs)
  where
    last : (c : Bool) → cond c new (cond c old xs) ≡ cond c new xs
    last true = refl
    last false = refl
rebytes-twice serial old new (Free m s ∷ bs) = ap (λ (l : List Block). Free m s ∷ l) (rebytes-twice serial old new bs)

-- ---- the block of a name

-- it is the only one of its serial
pub only_one : (h : HeapState) (name : Name) → IsLawful h → (is_named : IsNamed h name)
    → AllByRecursion (λ y. y ≢ name.serial) (serials (take is_named.1.0 h.blocks)) × AllByRecursion (λ y. y ≢ name.serial) (serials (drop (suc is_named.1.0) h.blocks))
only_one h name lawful is_named =
    let i = is_named.1.0 in
    let b = block_at h.blocks i in
    let whole = split_at h.blocks i is_named.1.1.within in
    apart b (take i h.blocks) (drop (suc i) h.blocks) (and_left (has_serial name.serial b) _ is_named.1.1.here) (subst (λ (l : List Block). IsLawful (with_blocks h l)) whole lawful)
  where
    apart : (b : Block) (front back : List Block) → has_serial name.serial b ≡ true → IsLawful (with_blocks h (front ++ b ∷ back))
        → AllByRecursion (λ y. y ≢ name.serial) (serials front) × AllByRecursion (λ y. y ≢ name.serial) (serials back)
    apart (Free m s) front back own all = absurd (false≢true own)
    apart (Live m s xs) front back own all =
        subst (λ (k : ℕ). AllByRecursion (λ y. y ≢ k) (serials front) × AllByRecursion (λ y. y ≢ k) (serials back)) (eqb-true s name.serial own)
        (distinct_from s (serials front) (serials back) (subst AreDistinct (serials-append front (Live m s xs ∷ back)) all.serials_differ))

module _ (h : HeapState) (name : Name) (new : List ℕ) (lawful : IsLawful h) where
  pub rebytes_named : (is_named : IsNamed h name) → rebytes name.serial new h.blocks ≡ take is_named.1.0 h.blocks ++ with_bytes (block_at h.blocks is_named.1.0) new ∷ drop (suc is_named.1.0) h.blocks
  rebytes_named is_named =
      let i = is_named.1.0 in
      let front = take i h.blocks in
      let b = block_at h.blocks i in
      let back = drop (suc i) h.blocks in
      let whole = split_at h.blocks i is_named.1.1.within in
      let own = and_left (has_serial name.serial b) _ is_named.1.1.here in
      let others = only_one h name lawful is_named in
      ap (rebytes name.serial new) whole ∙ rebytes-append name.serial new front (b ∷ back)
      ∙ ap (λ (l : List Block). l ++ rebyte name.serial new b ∷ rebytes name.serial new back) (rebytes-none name.serial new front others.0)
      ∙ ap (λ (l : List Block). front ++ rebyte name.serial new b ∷ l) (rebytes-none name.serial new back others.1)
      ∙ ap (λ (x : Block). front ++ x ∷ back) (rebyte_own name.serial new b own)

  pub with_payload_rebyted : (live : IsLive h name) → with_payload h name new ≡ rebyted name.serial new h
  with_payload_rebyted live =
      let is_named = named_of h name live in
      ap (with_payload_at h new) (named_is name h.blocks is_named.1.0 is_named.1.1) ∙ sym (ap (with_blocks h) (rebytes_named is_named))

-- a write is another payload
pub written_rebyted : (h : HeapState) (name : Name) (at : ℕ) (bytes : List ℕ) → IsLawful h → IsLive h name → at + length bytes ≤ length (payload_of h name)
    → (written h name at bytes).heap ≡ rebyted name.serial (overwritten (payload_of h name) at bytes) h
written_rebyted h name at bytes lawful live fits =
    let is_named = named_of h name live in
    let i = is_named.1.0 in
    let b = block_at h.blocks i in
    let payload = payload_is h name is_named in
    let has : has_bytes b at (length bytes) ≡ true = let e = ap length payload in grind (arith, nat_tests) in
    let left : List ℕ → HeapState = λ (xs : List ℕ). with_blocks h (take i h.blocks ++ with_bytes b xs ∷ drop (suc i) h.blocks) in
    ap (λ (o : Outcome (Unit {0})). o.heap) (at_name h name (written_at h at bytes) (refused h) is_named.0 i is_named.1.1 ∙ ap (λ (c : Bool). cond c (record { answer = Ok tt; heap = left (overwritten (bytes_of b) at bytes) }) (refused h Range)) has)
    ∙ ap (λ (xs : List ℕ). left (overwritten xs at bytes)) (sym payload)
    ∙ sym (ap (with_blocks h) (rebytes_named h name (overwritten (payload_of h name) at bytes) lawful is_named))

-- its payload is then that
pub payload_rebyted : (h : HeapState) (name : Name) (new : List ℕ) → IsLive h name → payload_of (rebyted name.serial new h) name ≡ new
payload_rebyted h name new live = ap bytes_at (named_rebytes name.serial new name h.blocks) ∙ found (named name h.blocks) refl live.1
  where
    own : (b : Block) → has_serial name.serial b ≡ true → bytes_of (rebyte name.serial new b) ≡ new
    own (Live m s xs) is = ap (λ (c : Bool). cond c new xs) is
    own (Free m s) is = absurd (false≢true is)

    found : (o : Option Site) → named name h.blocks ≡ o → IsSome o → bytes_at (on_site name.serial new o) ≡ new
    found None e some = absurd (false≢true some)
    found (Some s) e some = own s.block (and_left (has_serial name.serial s.block) _ (named_site name h.blocks s e).1)

-- that of another serial stays
pub payload_other : (serial : ℕ) (new : List ℕ) (h : HeapState) (name : Name) → name.serial ≢ serial → IsLive h name → payload_of (rebyted serial new h) name ≡ payload_of h name
payload_other serial new h name differ live = ap bytes_at (named_rebytes serial new name h.blocks) ∙ found (named name h.blocks) refl
  where
    other : (b : Block) → has_serial name.serial b ≡ true → bytes_of (rebyte serial new b) ≡ bytes_of b
    other (Live m t xs) is = ap (λ (c : Bool). cond c new xs) (ne_eqb t serial (λ e. differ (sym (eqb-true t name.serial is) ∙ e)))
    other (Free m t) is = refl

    found : (o : Option Site) → named name h.blocks ≡ o → bytes_at (on_site serial new o) ≡ bytes_at o
    found None e = refl
    found (Some s) e = other s.block (and_left (has_serial name.serial s.block) _ (named_site name h.blocks s e).1)

-- with the bytes that it has, a heap is the same
pub rebyted_same : (h : HeapState) (name : Name) → IsLawful h → IsLive h name → rebyted name.serial (payload_of h name) h ≡ h
rebyted_same h name lawful live =
    let is_named = named_of h name live in
    let i = is_named.1.0 in
    ap (with_blocks h) (rebytes_named h name (payload_of h name) lawful is_named
    ∙ ap (λ (x : Block). take i h.blocks ++ x ∷ drop (suc i) h.blocks) (ap (with_bytes (block_at h.blocks i)) (payload_is h name is_named) ∙ own (block_at h.blocks i))
    ∙ sym (split_at h.blocks i is_named.1.1.within))
  where
    own : (b : Block) → with_bytes b (bytes_of b) ≡ b
    own (Live m t xs) = refl
    own (Free m t) = refl

-- ---- bytes that a call gives don't tell what else it does

module _ (h : HeapState) (name : Name) (n len other : ℕ) where
  pub resized_answers : (resized_words h name n len).answer ≡ (resized_words h name n other).answer
  resized_answers = own (eqb name.heap h.id) (named name h.blocks)
    where
      both : (c d : Bool) (s : Site) → (cond c (refused h NoRoom) (cond d (refused h Worn) (resizes h n len s))).answer ≡ (cond c (refused h NoRoom) (cond d (refused h Worn) (resizes h n other s))).answer
      both true d s = refl
      both false true s = refl
      both false false s = refl

      at : (o : Option Site) → (resized_at h n len o).answer ≡ (resized_at h n other o).answer
      at None = refl
      at (Some s) = both (nat_lt (room_of s.block s.after) n) (is_worn h) s

      own : (c : Bool) (o : Option Site) → (cond c (resized_at h n len o) (refused h Foreign)).answer ≡ (cond c (resized_at h n other o) (refused h Foreign)).answer
      own true o = at o
      own false o = refl

  pub resized_rebyted : (new : List ℕ) → rebyted name.serial new (resized_words h name n len).heap ≡ rebyted name.serial new (resized_words h name n other).heap
  resized_rebyted new = own (eqb name.heap h.id) (named name h.blocks) refl
    where
      -- the two ways to cut the block, and the one that keeps it
      cuts : (c : Bool) (room t k : ℕ) (xs ys : List ℕ) (back : List Block) → eqb t name.serial ≡ true
          → rebytes name.serial new (cond c (Live n t xs ∷ Free k h.tick ∷ []) (Live room t xs ∷ []) ++ back) ≡ rebytes name.serial new (cond c (Live n t ys ∷ Free k h.tick ∷ []) (Live room t ys ∷ []) ++ back)
      cuts true room t k xs ys back is = ap (λ (b : Bool). Live n t (cond b new xs) ∷ Free k h.tick ∷ rebytes name.serial new back) is ∙ sym (ap (λ (b : Bool). Live n t (cond b new ys) ∷ Free k h.tick ∷ rebytes name.serial new back) is)
      cuts false room t k xs ys back is = ap (λ (b : Bool). Live room t (cond b new xs) ∷ rebytes name.serial new back) is ∙ sym (ap (λ (b : Bool). Live room t (cond b new ys) ∷ rebytes name.serial new back) is)

      kept : (c : Bool) (m t : ℕ) (xs ys : List ℕ) (back : List Block) → eqb t name.serial ≡ true
          → rebytes name.serial new (cond c (Live m t xs ∷ back) (recut h.tick n (Live m t xs) back)) ≡ rebytes name.serial new (cond c (Live m t ys ∷ back) (recut h.tick n (Live m t ys) back))
      kept true m t xs ys back is = ap (λ (b : Bool). Live m t (cond b new xs) ∷ rebytes name.serial new back) is ∙ sym (ap (λ (b : Bool). Live m t (cond b new ys) ∷ rebytes name.serial new back) is)
      kept false m t xs ys back is = cuts (nat_le (n + 4) (m + first_free back)) (m + first_free back) t (m + first_free back - n) xs ys (past_free back) is

      here : (b : Block) (back : List Block) → has_serial name.serial b ≡ true → rebytes name.serial new (refitted h.tick n len b back) ≡ rebytes name.serial new (refitted h.tick n other b back)
      here (Live m t xs) back is = kept (is_sized n (Live m t xs)) m t (fitted xs len) (fitted xs other) back is
      here (Free m t) back is = absurd (false≢true is)

      blocks : (s : Site) → has_serial name.serial s.block ≡ true → rebytes name.serial new (s.before ++ refitted h.tick n len s.block s.after) ≡ rebytes name.serial new (s.before ++ refitted h.tick n other s.block s.after)
      blocks s is =
          rebytes-append name.serial new s.before (refitted h.tick n len s.block s.after)
          ∙ ap (λ (l : List Block). rebytes name.serial new s.before ++ l) (here s.block s.after is)
          ∙ sym (rebytes-append name.serial new s.before (refitted h.tick n other s.block s.after))

      done : (c d : Bool) (s : Site) → has_serial name.serial s.block ≡ true
          → rebyted name.serial new (cond c (refused h NoRoom) (cond d (refused h Worn) (resizes h n len s))).heap ≡ rebyted name.serial new (cond c (refused h NoRoom) (cond d (refused h Worn) (resizes h n other s))).heap
      done true d s is = refl
      done false true s is = refl
      done false false s is = ap (ticked h) (blocks s is)

      at : (o : Option Site) → named name h.blocks ≡ o → rebyted name.serial new (resized_at h n len o).heap ≡ rebyted name.serial new (resized_at h n other o).heap
      at None e = refl
      at (Some s) e = done (nat_lt (room_of s.block s.after) n) (is_worn h) s (and_left (has_serial name.serial s.block) _ (named_site name h.blocks s e).1)

      own : (c : Bool) (o : Option Site) → named name h.blocks ≡ o
          → rebyted name.serial new (cond c (resized_at h n len o) (refused h Foreign)).heap ≡ rebyted name.serial new (cond c (resized_at h n other o) (refused h Foreign)).heap
      own true o e = at o e
      own false o e = refl
