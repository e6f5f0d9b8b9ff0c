-- Requests to the program `rehearse`, written and read.
use Rattle.std.specs.Prelude.{slice_index}
use Rattle.std.proofs.Common.{◌≡◌, ℕ, ◌^◌, ◌<◌, false, List, [], ◌∷◌, map, length, Some, None, codes, decimal, sym, refl, ap, ◌∙◌, subst, arith, lit<}
use Rattle.std.specs.Option.{option_map, option_and_then}
use Rattle.std.specs.List.{AllByRecursion}
use Rattle.std.specs.Str.{bytes_eq}
use Rattle.words.specs.Numbers.{number_of, plain, one_of}
use Rattle.std.proofs.lemmas.Option.{none-some, option_and_then_some}
use Rattle.words.specs.Words.{joined}
use Rattle.words.proofs.Joins.{joined_words}
use Rattle.words.proofs.Good.{Good, all_same, all_whole, good_key, good_decimal}
use Rattle.words.proofs.Plainly.{mapped_some, number_fits, plain_number, number_plain, one_sound, one_complete, key_plain, numbers_complete}
use Rattle.clocks.specs.declared.counting.Drift.{Drift}
use Rattle.clocks.specs.declared.counting.Drift.TheVariants.{Fast, Slow}
use Rattle.lines.specs.declared.scripts.ScriptRequest.{ScriptRequest}
use Rattle.lines.specs.declared.scripts.ScriptRequest.TheVariants.{World, Pass, Clock, Ask, Answer, Honest, Span}
use Rattle.lines.specs.Lines.{skipped, RequestLaws}
use Rattle.clocks.specs.Dials.{parts_of}
use Rattle.lines.specs.Scripts.{world_of, pass_of, drift_of, drift_words, clock_of, ask_of, answer_of, honest_of, span_of, script_request, script_words, ScriptFits}
use Rattle.lines.specs.Readings.{Reads, pick, keyed, read_numbers, no_words}

abbrev ScriptReads : List (List ℕ) → ScriptRequest → Type 0
ScriptReads ws q = Reads script_words ScriptFits ws q

-- how a clock runs, by the word for it
abbrev Run : List ℕ → ℕ → Drift → Type 0
Run way n d = (n ≡ parts_of d) × (plain way ∷ decimal n ∷ [] ≡ drift_words d)

drift_sound : (way : List ℕ) (n : ℕ) (d : Drift) → drift_of way n ≡ Some d → Run way n d
drift_sound way n d e =
    pick (bytes_eq way (codes "fast")) (Some (Fast n)) _ d (Run way n d)
    (λ t is. let same : Fast n ≡ d = cc in subst (Run way n) same (refl, λ i. plain (keyed way (codes "fast") t i) ∷ decimal n ∷ []))
    (λ e. pick (bytes_eq way (codes "slow")) (Some (Slow n)) None d (Run way n d)
    (λ t is. let same : Slow n ≡ d = cc in subst (Run way n) same (refl, λ i. plain (keyed way (codes "slow") t i) ∷ decimal n ∷ []))
    (λ e. absurd (none-some d e)) e) e

-- a clock's line
clock_sound : (ws : List (List ℕ)) (q : ScriptRequest) → clock_of ws ≡ Some q → ScriptReads (codes "clock" ∷ ws) q
clock_sound [] q e = absurd (none-some q e)
clock_sound (h ∷ []) q e = absurd (none-some q e)
clock_sound (h ∷ way ∷ ws) q e =
    option_and_then_some (λ m. option_and_then (λ n. option_map (Clock m) (drift_of way n)) (one_of ws)) (number_of h) q e (λ m is f.
    option_and_then_some (λ n. option_map (Clock m) (drift_of way n)) (one_of ws) q f (λ n one g.
    let r = mapped_some (Clock m) (drift_of way n) q g in
    let d = drift_sound way n r.0 r.1 in
    let o = one_sound ws n one in
    subst (ScriptReads (codes "clock" ∷ h ∷ way ∷ ws)) r.2
    ((number_fits h m is, omega (arith, o.1, d.0)), (λ i. codes "clock" ∷ plain_number h m is i ∷ plain way ∷ o.0 i) ∙ ap (λ vs. codes "clock" ∷ decimal m ∷ vs) d.1)))

clock_words : (h way : List ℕ) (ws : List (List ℕ)) (m n : ℕ) → m < 2 ^ 64 → n < 2 ^ 64 → plain h ≡ decimal m → map plain ws ≡ decimal n ∷ [] → clock_of (h ∷ way ∷ ws) ≡ option_map (Clock m) (drift_of way n)
clock_words h way ws m n f g e d =
    ap (option_and_then (λ m. option_and_then (λ n. option_map (Clock m) (drift_of way n)) (one_of ws))) (number_plain h m f e) ∙ ap (option_and_then (λ n. option_map (Clock m) (drift_of way n))) (one_complete ws n g d)

clock_complete : (ws : List (List ℕ)) (m : ℕ) (d : Drift) → m < 2 ^ 64 → parts_of d < 2 ^ 64 → map plain ws ≡ decimal m ∷ drift_words d → clock_of ws ≡ Some (Clock m d)
clock_complete [] m d f g e = absurd (omega (arith, ap length e))
clock_complete (h ∷ []) m (Fast n) f g e = absurd (omega (arith, ap length e))
clock_complete (h ∷ []) m (Slow n) f g e = absurd (omega (arith, ap length e))
clock_complete (h ∷ way ∷ ws) m (Fast n) f g e = clock_words h way ws m n f g (cc) (cc) ∙ ap (λ w. option_map (Clock m) (drift_of w n)) (key_plain way (codes "fast") refl (cc))
clock_complete (h ∷ way ∷ ws) m (Slow n) f g e = clock_words h way ws m n f g (cc) (cc) ∙ ap (λ w. option_map (Clock m) (drift_of w n)) (key_plain way (codes "slow") refl (cc))

sound : (ws : List (List ℕ)) (q : ScriptRequest) → script_request ws ≡ Some q → ScriptReads ws q
sound [] q e = absurd (none-some q e)
sound (k ∷ ws) q e =
    pick (bytes_eq k (codes "world")) (world_of ws) _ q (ScriptReads (k ∷ ws) q)
    (λ t h. read_numbers script_words ScriptFits 4 (λ ns. World (slice_index ns 0) (slice_index ns 1) (slice_index ns 2) (slice_index ns 3)) (codes "world") refl (λ ns. refl) (λ ns h. (h.0, h.1.0, h.1.1.0, h.1.1.1.0)) k ws q (keyed k (codes "world") t) h)
    (λ e. pick (bytes_eq k (codes "pass")) (pass_of ws) _ q (ScriptReads (k ∷ ws) q)
    (λ t h. read_numbers script_words ScriptFits 1 (λ ns. Pass (slice_index ns 0)) (codes "pass") refl (λ ns. refl) (λ ns h. h.0) k ws q (keyed k (codes "pass") t) h)
    (λ e. pick (bytes_eq k (codes "clock")) (clock_of ws) _ q (ScriptReads (k ∷ ws) q)
    (λ t h. subst (λ x. ScriptReads (x ∷ ws) q) (sym (keyed k (codes "clock") t)) (clock_sound ws q h))
    (λ e. pick (bytes_eq k (codes "ask")) (ask_of ws) _ q (ScriptReads (k ∷ ws) q)
    (λ t h. read_numbers script_words ScriptFits 2 (λ ns. Ask (slice_index ns 0) (slice_index ns 1)) (codes "ask") refl (λ ns. refl) (λ ns h. (h.0, h.1.0)) k ws q (keyed k (codes "ask") t) h)
    (λ e. pick (bytes_eq k (codes "answer")) (answer_of ws) _ q (ScriptReads (k ∷ ws) q)
    (λ t h. read_numbers script_words ScriptFits 4 (λ ns. Answer (slice_index ns 0) (slice_index ns 1) (record { low = slice_index ns 2; high = slice_index ns 3 })) (codes "answer") refl (λ ns. refl) (λ ns h. (h.0, h.1.0, h.1.1.0, h.1.1.1.0)) k ws q (keyed k (codes "answer") t) h)
    (λ e. pick (bytes_eq k (codes "honest")) (honest_of ws) _ q (ScriptReads (k ∷ ws) q)
    (λ t h. read_numbers script_words ScriptFits 4 (λ ns. Honest (slice_index ns 0) (slice_index ns 1) (slice_index ns 2) (slice_index ns 3)) (codes "honest") refl (λ ns. refl) (λ ns h. (h.0, h.1.0, h.1.1.0, h.1.1.1.0)) k ws q (keyed k (codes "honest") t) h)
    (λ e. pick (bytes_eq k (codes "span")) (span_of ws) None q (ScriptReads (k ∷ ws) q)
    (λ t h. read_numbers script_words ScriptFits 1 (λ ns. Span (slice_index ns 0)) (codes "span") refl (λ ns. refl) (λ ns h. h.0) k ws q (keyed k (codes "span") t) h)
    (λ e. absurd (none-some q e)) e) e) e) e) e) e) e

some : (q : ScriptRequest) → 0 < length (script_words q)
some (World a b c d) = lit< tt
some (Pass a) = lit< tt
some (Ask a b) = lit< tt
some (Answer a b s) = lit< tt
some (Honest a b c d) = lit< tt
some (Span a) = lit< tt
some (Clock a d) = omega arith

complete : (ws : List (List ℕ)) (q : ScriptRequest) → ScriptReads ws q → script_request ws ≡ Some q
complete [] q h = no_words (script_words q) (some q) h.1
complete (k ∷ ws) (World a b c d) h = ap (λ x. script_request (x ∷ ws)) (key_plain k (codes "world") refl (cc)) ∙ ap (option_map (λ ns. World (slice_index ns 0) (slice_index ns 1) (slice_index ns 2) (slice_index ns 3))) (numbers_complete ws (a ∷ b ∷ c ∷ d ∷ []) (h.0.0, (h.0.1, (h.0.2, (h.0.3, tt)))) (cc))
complete (k ∷ ws) (Pass a) h = ap (λ x. script_request (x ∷ ws)) (key_plain k (codes "pass") refl (cc)) ∙ ap (option_map (λ ns. Pass (slice_index ns 0))) (numbers_complete ws (a ∷ []) (h.0, tt) (cc))
complete (k ∷ ws) (Ask a b) h = ap (λ x. script_request (x ∷ ws)) (key_plain k (codes "ask") refl (cc)) ∙ ap (option_map (λ ns. Ask (slice_index ns 0) (slice_index ns 1))) (numbers_complete ws (a ∷ b ∷ []) (h.0.0, (h.0.1, tt)) (cc))
complete (k ∷ ws) (Answer a b s) h = ap (λ x. script_request (x ∷ ws)) (key_plain k (codes "answer") refl (cc)) ∙ ap (option_map (λ ns. Answer (slice_index ns 0) (slice_index ns 1) (record { low = slice_index ns 2; high = slice_index ns 3 }))) (numbers_complete ws (a ∷ b ∷ s.low ∷ s.high ∷ []) (h.0.0, (h.0.1, (h.0.2, (h.0.3, tt)))) (cc))
complete (k ∷ ws) (Honest a b c d) h = ap (λ x. script_request (x ∷ ws)) (key_plain k (codes "honest") refl (cc)) ∙ ap (option_map (λ ns. Honest (slice_index ns 0) (slice_index ns 1) (slice_index ns 2) (slice_index ns 3))) (numbers_complete ws (a ∷ b ∷ c ∷ d ∷ []) (h.0.0, (h.0.1, (h.0.2, (h.0.3, tt)))) (cc))
complete (k ∷ ws) (Span a) h = ap (λ x. script_request (x ∷ ws)) (key_plain k (codes "span") refl (cc)) ∙ ap (option_map (λ ns. Span (slice_index ns 0))) (numbers_complete ws (a ∷ []) (h.0, tt) (cc))
complete (k ∷ ws) (Clock a d) h = ap (λ x. script_request (x ∷ ws)) (key_plain k (codes "clock") refl (cc)) ∙ clock_complete ws a d h.0.0 h.0.1 (cc)

begins : (q : ScriptRequest) → skipped (joined (script_words q)) ≡ false
begins (World a b c d) = refl
begins (Pass a) = refl
begins (Ask a b) = refl
begins (Answer a b s) = refl
begins (Honest a b c d) = refl
begins (Span a) = refl
begins (Clock a d) = refl

good : (q : ScriptRequest) → ScriptFits q → AllByRecursion Good (script_words q)
good (World a b c d) h = (good_key (codes "world") refl refl, (good_decimal a h.0, (good_decimal b h.1, (good_decimal c h.2, (good_decimal d h.3, tt)))))
good (Pass a) h = (good_key (codes "pass") refl refl, (good_decimal a h, tt))
good (Ask a b) h = (good_key (codes "ask") refl refl, (good_decimal a h.0, (good_decimal b h.1, tt)))
good (Answer a b s) h = (good_key (codes "answer") refl refl, (good_decimal a h.0, (good_decimal b h.1, (good_decimal s.low h.2, (good_decimal s.high h.3, tt)))))
good (Honest a b c d) h = (good_key (codes "honest") refl refl, (good_decimal a h.0, (good_decimal b h.1, (good_decimal c h.2, (good_decimal d h.3, tt)))))
good (Span a) h = (good_key (codes "span") refl refl, (good_decimal a h, tt))
good (Clock a (Fast n)) h = (good_key (codes "clock") refl refl, (good_decimal a h.0, (good_key (codes "fast") refl refl, (good_decimal n h.1, tt))))
good (Clock a (Slow n)) h = (good_key (codes "clock") refl refl, (good_decimal a h.0, (good_key (codes "slow") refl refl, (good_decimal n h.1, tt))))

pub script_laws : RequestLaws script_words ScriptFits script_request
script_laws = record {
  sound = sound;
  complete = λ ws q fits e. complete ws q (fits, e);
  same = λ q fits. all_same (script_words q) (good q fits);
  cut = λ q fits. joined_words (script_words q) (some q) (all_whole (script_words q) (good q fits));
  begins = begins;
}
