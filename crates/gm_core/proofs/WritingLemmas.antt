-- Packets whose last argument is put behind the rest.
use Rattle.std.proofs.Common.{◌≡◌, ℕ, zero, suc, ◌+◌, ◌-◌, ◌<◌, ◌^◌, List, [], ◌∷◌, ◌++◌, Some, length, take, drop, refl, sym, ap, subst, ◌∙◌, arith, append_assoc, length-append}
use Rattle.std.specs.Int.{w32, to_be_bytes}
use Rattle.std.specs.List.{join_with_byte, list_any}
use Rattle.gm_packet.specs.Packets.{response_magic, packet, has_nul, LackNul, Fits}
use Rattle.gm_packet.specs.Answers.{Answer, answer_packet, echo_res}
use Rattle.gm_packet.proofs.Packets.{length-packet}
use Rattle.gm_actions.specs.Bodies.{last_text, EndsWith}
use Rattle.gm_core.specs.Writing.{bare, bare_answer}

-- the last argument comes behind the others
join_bare : (texts : List (List ℕ)) (text : List ℕ) → last_text texts ≡ Some text → join_with_byte 0 texts ≡ join_with_byte 0 (bare texts) ++ text
join_bare [] text is = absurd cc
join_bare (only ∷ []) text is = cc
join_bare (first ∷ next ∷ []) text is =
    let same : next ≡ text = cc in ap (λ (l : List ℕ). first ++ 0 ∷ l) same ∙ sym (append_assoc first (0 ∷ []) text)
join_bare (first ∷ next ∷ third ∷ texts) text is =
    ap (λ (l : List ℕ). first ++ 0 ∷ l) (join_bare (next ∷ third ∷ texts) text is) ∙ sym (append_assoc first (0 ∷ join_with_byte 0 (bare (next ∷ third ∷ texts))) text)

-- all but the last argument stay
fronts : (texts : List (List ℕ)) (count : ℕ) → count < length texts → take count (bare texts) ≡ take count texts
fronts texts zero less = refl
fronts [] (suc count) less = absurd (omega (arith, less))
fronts (only ∷ []) (suc count) less = absurd (omega (arith, less))
fronts (first ∷ next ∷ texts) (suc count) less = ap (λ (l : List (List ℕ)). first ∷ l) (fronts (next ∷ texts) count (omega (arith, less)))

bare_count : (texts : List (List ℕ)) → length (bare texts) ≡ length texts
bare_count [] = refl
bare_count (only ∷ []) = refl
bare_count (first ∷ next ∷ texts) = ap suc (bare_count (next ∷ texts))

some_text : (texts : List (List ℕ)) (text : List ℕ) → last_text texts ≡ Some text → 0 < length texts
some_text [] text is = absurd cc
some_text (first ∷ texts) text is = omega arith

-- an answer that ends in a text fits a packet, and so does the bare one, made longer for that text
module _ (answer short : Answer) (text : List ℕ) (same : short ≡ bare_answer answer) (ends : EndsWith text answer) (fits : Fits answer.arguments) where
  counted : length (join_with_byte 0 short.arguments) + length text ≡ length (join_with_byte 0 answer.arguments)
  counted =
      ap (λ (a : Answer). length (join_with_byte 0 a.arguments) + length text) same
      ∙ (sym (length-append (join_with_byte 0 (bare answer.arguments)) text) ∙ sym (ap (λ (l : List ℕ). length l) (join_bare answer.arguments text ends)))

  pub bare_sized : length (join_with_byte 0 short.arguments) + length text < 2 ^ 32
  bare_sized = let is = fits.sized in let so = counted in omega (arith, is, so)

  pub bare_fits : Fits short.arguments
  bare_fits =
      let is = bare_sized in
      let some = some_text answer.arguments text ends in
      let count = bare_count answer.arguments in
      record {
        separable = subst (λ (a : Answer). LackNul (length a.arguments - 1) a.arguments) (sym same)
            (subst (λ (n : ℕ). LackNul n (bare answer.arguments)) {x = length answer.arguments - 1} (omega (arith, count))
            (ap (list_any has_nul) (fronts answer.arguments (length answer.arguments - 1) (omega (arith, some))) ∙ fits.separable));
        sized = omega (arith, is);
      }

-- a packet that was made longer for a text, and the text
lengthened : (kind : ℕ) (bytes text : List ℕ)
    → (take 8 (packet response_magic kind bytes) ++ to_be_bytes w32 ((length (packet response_magic kind bytes) - 12) + length text) ++ drop 12 (packet response_magic kind bytes)) ++ text
    ≡ packet response_magic kind (bytes ++ text)
unfolding packet
lengthened kind bytes text =
    let count : (length (packet response_magic kind bytes) - 12) + length text ≡ length (bytes ++ text) = omega (arith, length-packet response_magic kind bytes refl, length-append bytes text) in
    ap (λ (n : ℕ). (((response_magic ++ to_be_bytes w32 kind) ++ to_be_bytes w32 n) ++ bytes) ++ text) count
    ∙ append_assoc ((response_magic ++ to_be_bytes w32 kind) ++ to_be_bytes w32 (length (bytes ++ text))) bytes text

-- the bare packet, made longer for the last argument, and that argument are the whole packet
pub written_over : (answer short : Answer) (text all : List ℕ) → short ≡ bare_answer answer → EndsWith text answer
    → all ≡ take 8 (answer_packet short) ++ to_be_bytes w32 ((length (answer_packet short) - 12) + length text) ++ drop 12 (answer_packet short)
    → all ++ text ≡ answer_packet answer
written_over answer short text all same ends is =
    let spelled = join_bare answer.arguments text ends in
    ap (λ (l : List ℕ). l ++ text)
    (is ∙ ap (λ (a : Answer). take 8 (answer_packet a) ++ to_be_bytes w32 ((length (answer_packet a) - 12) + length text) ++ drop 12 (answer_packet a)) same)
    ∙ (lengthened answer.kind (join_with_byte 0 (bare answer.arguments)) text ∙ ap (packet response_magic answer.kind) (sym spelled))

-- the header of an echo, and its bytes
pub echoed : (bytes : List ℕ) → (response_magic ++ to_be_bytes w32 17 ++ to_be_bytes w32 (length bytes)) ++ bytes ≡ answer_packet (echo_res bytes)
unfolding packet
echoed bytes = refl
