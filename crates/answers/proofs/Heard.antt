-- What is written of an answer reads back as it.
use Rattle.std.proofs.Common.{◌≡◌, ℕ, ◌^◌, ◌<◌, Bool, true, ◌&&◌, leb, List, [], ◌∷◌, ◌++◌, length, Some, codes, decimal, refl, ap, ◌∙◌, arith, lit<}
use Rattle.std.specs.Option.{option_map, option_and_then}
use Rattle.std.specs.Char.{is_ascii_digit}
use Rattle.std.specs.List.{AllByRecursion}
use Rattle.std.specs.Str.{all_ascii_digits}
use Rattle.std.proofs.ByRecursion.{All-append}
use Rattle.std.proofs.lemmas.Bool.{and_parts, both_ways, leb-true}
use Rattle.words.specs.Laws.{Whole}
use Rattle.words.specs.Numbers.{number_of, plain}
use Rattle.words.specs.Words.{joined}
use Rattle.words.proofs.Joins.{joined_words}
use Rattle.words.proofs.Plainly.{plain_number, one_complete, two_complete}
use Rattle.words.proofs.Writes.{numbers_read_back_lem, decimal_digits}
use Rattle.answers.specs.declared.Said.{Said}
use Rattle.answers.specs.declared.Said.TheVariants.{Ok, Number, Span}
use Rattle.answers.specs.declared.Reply.{Reply}
use Rattle.answers.specs.declared.Reply.TheVariants.{Plain, World, Machine}
use Rattle.answers.specs.Answers.{said_words, stamped, reply_words}
use Rattle.answers.specs.Hears.{said_of, before_colon, time_of, from_machine, behind_time, from_time, reply_of, SaidFits, ReplyFits, ReadsBack}

-- what is said
decimal_plain : (n : ℕ) → n < 2 ^ 64 → plain (decimal n) ≡ decimal n
decimal_plain n h = plain_number (decimal n) n (numbers_read_back_lem n h)

said_back : (said : Said) → SaidFits said → said_of (said_words said) ≡ Some said
said_back Ok h = refl
said_back (Number n) h = ap (option_map Number) (one_complete (decimal n ∷ []) n h (ap (λ w. w ∷ []) (decimal_plain n h)))
said_back (Span s) h =
    ap (option_map (λ p. Span (record { low = p.0; high = p.1 })))
    (two_complete (decimal s.low ∷ decimal s.high ∷ []) s.low s.high h.0 h.1 (λ i. decimal_plain s.low h.0 i ∷ decimal_plain s.high h.1 i ∷ []))

-- the time
before_colon_lem : (w : List ℕ) → before_colon (w ++ 58 ∷ []) ≡ Some w
before_colon_lem [] = refl
before_colon_lem (b ∷ []) = refl
before_colon_lem (b ∷ c ∷ w) = ap (option_map (λ x. b ∷ x)) (before_colon_lem (c ∷ w))

time_back : (time : ℕ) → time < 2 ^ 64 → time_of (stamped time) ≡ Some time
time_back time h = ap (option_and_then number_of) (before_colon_lem (decimal time)) ∙ numbers_read_back_lem time h

-- the whole answer, from its words
plain_back : (said : Said) → reply_of (said_words said) ≡ option_map Plain (said_of (said_words said))
plain_back Ok = refl
plain_back (Number n) = refl
plain_back (Span s) = refl

world_back : (time : ℕ) (said : Said) → behind_time time (said_words said) ≡ option_map (World time) (said_of (said_words said))
world_back time Ok = refl
world_back time (Number n) = refl
world_back time (Span s) = refl

reply_back : (reply : Reply) → ReplyFits reply → reply_of (reply_words reply) ≡ Some reply
reply_back (Plain said) h = plain_back said ∙ ap (option_map Plain) (said_back said h)
reply_back (World time said) h =
    ap (λ o. from_time o (stamped time) (said_words said)) (time_back time h.0) ∙ world_back time said ∙ ap (option_map (World time)) (said_back said h.1)
reply_back (Machine time machine said) h =
    ap (λ o. from_time o (stamped time) (decimal machine ∷ said_words said)) (time_back time h.0)
    ∙ ap (λ o. from_machine time o (decimal machine) (said_words said)) (numbers_read_back_lem machine h.1)
    ∙ ap (option_map (Machine time machine)) (said_back said h.2)

-- a word with no space and no newline in it
abbrev Clear : List ℕ → Type 0
Clear w = AllByRecursion (λ b. (b ≡ 32 → ⊥) × (b ≡ 10 → ⊥)) w

clear_digits : (w : List ℕ) → all_ascii_digits w ≡ true → Clear w
clear_digits [] e = tt
clear_digits (b ∷ bs) e =
    let p = and_parts (is_ascii_digit b) (all_ascii_digits bs) e in
    (((λ s. both_ways (is_ascii_digit b) (ap is_ascii_digit s) p.0), (λ s. both_ways (is_ascii_digit b) (ap is_ascii_digit s) p.0)), clear_digits bs p.1)

clear_decimal : (n : ℕ) → n < 2 ^ 64 → Clear (decimal n)
clear_decimal n h = clear_digits (decimal n) (decimal_digits n h)

-- whether the bytes of a word are small letters
abbrev letters : List ℕ → Bool
letters [] = true
letters (b ∷ bs) = leb 97 b && letters bs

clear_letters : (w : List ℕ) → letters w ≡ true → Clear w
clear_letters [] e = tt
clear_letters (b ∷ bs) e =
    let p = and_parts (leb 97 b) (letters bs) e in
    let l = leb-true 97 b p.0 in
    (((λ s. omega arith), (λ s. omega arith)), clear_letters bs p.1)

clear_stamped : (time : ℕ) → time < 2 ^ 64 → Clear (stamped time)
clear_stamped time h = All-append (λ b. (b ≡ 32 → ⊥) × (b ≡ 10 → ⊥)) (decimal time) (58 ∷ []) (clear_decimal time h) (((λ s. omega arith), (λ s. omega arith)), tt)

clear_said : (said : Said) → SaidFits said → AllByRecursion Clear (said_words said)
clear_said Ok h = (clear_letters (codes "ok") refl, tt)
clear_said (Number n) h = (clear_letters (codes "number") refl, (clear_decimal n h, tt))
clear_said (Span s) h = (clear_letters (codes "span") refl, (clear_decimal s.low h.0, (clear_decimal s.high h.1, tt)))

clear_reply : (reply : Reply) → ReplyFits reply → AllByRecursion Clear (reply_words reply)
clear_reply (Plain said) h = clear_said said h
clear_reply (World time said) h = (clear_stamped time h.0, clear_said said h.1)
clear_reply (Machine time machine said) h = (clear_stamped time h.0, (clear_decimal machine h.1, clear_said said h.2))

whole : (w : List ℕ) → Clear w → Whole w
whole [] h = tt
whole (b ∷ bs) h = (h.0.0, whole bs h.1)

all_wholes : (ws : List (List ℕ)) → AllByRecursion Clear ws → AllByRecursion Whole ws
all_wholes [] h = tt
all_wholes (w ∷ ws) h = (whole w h.0, all_wholes ws h.1)

abbrev OneLine : List ℕ → Type 0
OneLine bs = AllByRecursion (λ b. b ≡ 10 → ⊥) bs

one_line : (w : List ℕ) → Clear w → OneLine w
one_line [] h = tt
one_line (b ∷ bs) h = (h.0.1, one_line bs h.1)

joined_line : (ws : List (List ℕ)) → AllByRecursion Clear ws → OneLine (joined ws)
joined_line [] h = tt
joined_line (w ∷ []) h = one_line w h.0
joined_line (w ∷ v ∷ ws) h = All-append (λ b. b ≡ 10 → ⊥) w (32 ∷ joined (v ∷ ws)) (one_line w h.0) ((λ s. omega arith), joined_line (v ∷ ws) h.1)

some_said : (said : Said) → 0 < length (said_words said)
some_said Ok = lit< tt
some_said (Number n) = lit< tt
some_said (Span s) = lit< tt

some : (reply : Reply) → 0 < length (reply_words reply)
some (Plain said) = some_said said
some (World time said) = omega arith
some (Machine time machine said) = omega arith

pub reads_back : (reply : Reply) → ReadsBack reply
reads_back reply h =
    let clear = clear_reply reply h in
    (joined_line (reply_words reply) clear, ap reply_of (joined_words (reply_words reply) (some reply) (all_wholes (reply_words reply) clear)) ∙ reply_back reply h)
