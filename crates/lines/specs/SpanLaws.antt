-- Requests to the program `span`, written and read.
use Rattle.std.specs.Prelude.{slice_index}
use Rattle.std.proofs.Common.{◌≡◌, ℕ, ◌<◌, false, List, [], ◌∷◌, length, Some, None, codes, refl, ap, ◌∙◌, lit<}
use Rattle.std.specs.Option.{option_map}
use Rattle.std.specs.List.{AllByRecursion}
use Rattle.std.specs.Str.{bytes_eq}
use Rattle.std.proofs.lemmas.Option.{none-some}
use Rattle.words.specs.Words.{joined}
use Rattle.words.proofs.Joins.{joined_words}
use Rattle.words.proofs.Good.{Good, all_same, all_whole, good_key, good_decimal}
use Rattle.words.proofs.Plainly.{key_plain, numbers_complete}
use Rattle.lines.specs.declared.spans.SpanRequest.{SpanRequest}
use Rattle.lines.specs.declared.spans.SpanRequest.TheVariants.{Asked, Answer, Now}
use Rattle.lines.specs.Lines.{skipped, RequestLaws}
use Rattle.lines.specs.Spans.{asked_of, answer_of, now_of, span_request, span_words, SpanFits}
use Rattle.lines.specs.Readings.{Reads, pick, keyed, read_numbers, no_words}

abbrev SpanReads : List (List ℕ) → SpanRequest → Type 0
SpanReads ws q = Reads span_words SpanFits ws q

sound : (ws : List (List ℕ)) (q : SpanRequest) → span_request ws ≡ Some q → SpanReads ws q
sound [] q e = absurd (none-some q e)
sound (k ∷ ws) q e =
    pick (bytes_eq k (codes "asked")) (asked_of ws) _ q (SpanReads (k ∷ ws) q)
    (λ t h. read_numbers span_words SpanFits 2 (λ ns. Asked (slice_index ns 0) (slice_index ns 1)) (codes "asked") refl (λ ns. refl) (λ ns h. (h.0, h.1.0)) k ws q (keyed k (codes "asked") t) h)
    (λ e. pick (bytes_eq k (codes "answer")) (answer_of ws) _ q (SpanReads (k ∷ ws) q)
    (λ t h. read_numbers span_words SpanFits 4 (λ ns. Answer (slice_index ns 0) (slice_index ns 1) (record { low = slice_index ns 2; high = slice_index ns 3 })) (codes "answer") refl (λ ns. refl) (λ ns h. (h.0, h.1.0, h.1.1.0, h.1.1.1.0)) k ws q (keyed k (codes "answer") t) h)
    (λ e. pick (bytes_eq k (codes "now")) (now_of ws) None q (SpanReads (k ∷ ws) q)
    (λ t h. read_numbers span_words SpanFits 1 (λ ns. Now (slice_index ns 0)) (codes "now") refl (λ ns. refl) (λ ns h. h.0) k ws q (keyed k (codes "now") t) h)
    (λ e. absurd (none-some q e)) e) e) e

some : (q : SpanRequest) → 0 < length (span_words q)
some (Asked a b) = lit< tt
some (Answer a b s) = lit< tt
some (Now a) = lit< tt

complete : (ws : List (List ℕ)) (q : SpanRequest) → SpanReads ws q → span_request ws ≡ Some q
complete [] q h = no_words (span_words q) (some q) h.1
complete (k ∷ ws) (Asked a b) h = ap (λ x. span_request (x ∷ ws)) (key_plain k (codes "asked") refl (cc)) ∙ ap (option_map (λ ns. Asked (slice_index ns 0) (slice_index ns 1))) (numbers_complete ws (a ∷ b ∷ []) (h.0.0, (h.0.1, tt)) (cc))
complete (k ∷ ws) (Answer a b s) h =
    ap (λ x. span_request (x ∷ ws)) (key_plain k (codes "answer") refl (cc)) ∙ ap (option_map (λ ns. Answer (slice_index ns 0) (slice_index ns 1) (record { low = slice_index ns 2; high = slice_index ns 3 }))) (numbers_complete ws (a ∷ b ∷ s.low ∷ s.high ∷ []) (h.0.0, (h.0.1, (h.0.2, (h.0.3, tt)))) (cc))
complete (k ∷ ws) (Now a) h = ap (λ x. span_request (x ∷ ws)) (key_plain k (codes "now") refl (cc)) ∙ ap (option_map (λ ns. Now (slice_index ns 0))) (numbers_complete ws (a ∷ []) (h.0, tt) (cc))

begins : (q : SpanRequest) → skipped (joined (span_words q)) ≡ false
begins (Asked a b) = refl
begins (Answer a b s) = refl
begins (Now a) = refl

good : (q : SpanRequest) → SpanFits q → AllByRecursion Good (span_words q)
good (Asked a b) h = (good_key (codes "asked") refl refl, (good_decimal a h.0, (good_decimal b h.1, tt)))
good (Answer a b s) h = (good_key (codes "answer") refl refl, (good_decimal a h.0, (good_decimal b h.1, (good_decimal s.low h.2, (good_decimal s.high h.3, tt)))))
good (Now a) h = (good_key (codes "now") refl refl, (good_decimal a h, tt))

pub span_laws : RequestLaws span_words SpanFits span_request
span_laws = record {
  sound = sound;
  complete = λ ws q fits e. complete ws q (fits, e);
  same = λ q fits. all_same (span_words q) (good q fits);
  cut = λ q fits. joined_words (span_words q) (some q) (all_whole (span_words q) (good q fits));
  begins = begins;
}
