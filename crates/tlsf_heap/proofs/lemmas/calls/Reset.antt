-- A reset: a refusal at the last tick, and else a heap as if opened anew.
use Rattle.tlsf_heap.proofs.Common.{◌≡◌, ◌≢◌, ℕ, ◌<◌, refl, arith, false≢true, IsOk, ◌↔◌, HeapState, refused, last_tick, IsLawful, IsLive, IsGone, Name, Worn, words_in_use}
use Rattle.tlsf_heap.specs.Calls.{reset}
use Rattle.tlsf_heap.proofs.lemmas.calls.Outcomes.{emptied, by_reset}
use Rattle.tlsf_heap.proofs.lemmas.laws.Live.{lives, serial_of}

pub reset_worn : (h : HeapState) → h.tick ≡ last_tick → reset h ≡ refused h Worn
reset_worn h worn = by_reset (λ o. o ≡ refused h Worn) h (λ late. refl) (λ fresh. absurd (fresh worn))

pub reset_done : (h : HeapState) → h.tick ≢ last_tick → reset h ≡ emptied h
reset_done h fresh = by_reset (λ o. o ≡ emptied h) h (λ late. absurd (fresh late)) (λ done. refl)

-- ---- laws

pub none_live : (h : HeapState) (name : Name) → IsOk (reset h).answer → ¬ (IsLive (reset h).heap name)
none_live h name = by_reset (λ o. IsOk o.answer → ¬ (IsLive o.heap name)) h (λ late ok. absurd (false≢true ok)) (λ fresh ok live. false≢true live.1)

pub all_gone : (h : HeapState) (name : Name) → IsLawful h → IsLive h name → IsOk (reset h).answer → IsGone (reset h).heap name.serial
all_gone h name lawful live =
    let past = serial_of name.at name.serial (λ s. s < h.tick) 0 h.blocks lawful.serials_past (lives h name live) in
    by_reset (λ o. IsOk o.answer → IsGone o.heap name.serial) h (λ late ok. absurd (false≢true ok)) (λ fresh ok. record { past = omega (arith, past); absent = tt })

pub still_gone : (h : HeapState) (serial : ℕ) → IsOk (reset h).answer → IsGone h serial → IsGone (reset h).heap serial
still_gone h serial ok gone =
    by_reset (λ o. IsOk o.answer → IsGone o.heap serial) h (λ late ok. absurd (false≢true ok)) (λ fresh ok. record { past = omega (arith, gone.past); absent = tt }) ok

pub reset_ok : (h : HeapState) → IsOk (reset h).answer ↔ (¬ (h.tick ≡ last_tick))
reset_ok h = (
  by_reset (λ o. IsOk o.answer → ¬ (h.tick ≡ last_tick)) h (λ late ok. absurd (false≢true ok)) (λ fresh ok. fresh),
  λ fresh. by_reset (λ o. IsOk o.answer) h (λ late. absurd (fresh late)) (λ done. refl),
)

pub none_in_use : (h : HeapState) → IsOk (reset h).answer → words_in_use (reset h).heap ≡ 0
none_in_use h = by_reset (λ o. IsOk o.answer → words_in_use o.heap ≡ 0) h (λ late ok. absurd (false≢true ok)) (λ fresh ok. refl)
