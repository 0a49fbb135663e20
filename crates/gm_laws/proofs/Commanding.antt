-- Text lines are read as what their words command, and as nothing else.
use Rattle.std.proofs.Common.{◌≡◌, ◌⊎◌, inl, inr, ℕ, ◌+◌, ◌^◌, Bool, true, false, cond, List, [], ◌∷◌, ◌++◌, map, Option, Some, None, Result, Ok, Err, refl, sym, ap, ap₂, subst, ◌∙◌, arith}
use Rattle.std.specs.Prelude.{◌==◌, nat_lt, codes}
use Rattle.std.specs.Char.{is_ascii_digit, to_ascii_lowercase}
use Rattle.std.specs.List.{list_any, list_all}
use Rattle.std.proofs.lemmas.Bool.{both_ways, eqb-true, and_parts, and_from, or_parts, or_from}
use Rattle.std.proofs.lemmas.Bool.Decides.{nat_tests}
use Rattle.std.proofs.lemmas.Slice.Eq.{bytes_eq-Decides}
use Rattle.gm_packet.specs.Decimals.{decimal_below}
use Rattle.gm_admin.specs.declared.fault.AdminFault.TheVariants.{UnknownCommand, MissingName, BadSize}
use Rattle.gm_admin.specs.Commands.{Commanded, Status, Workers, MaxQueue, Version, Shutdown, with_head, words_with, words_of, is_word, negative, size_of}
use Rattle.gm_admin.specs.Commands.{sized, maxqueue_of, shutdown_of, command_of_words, command_of}
use Rattle.gm_laws.specs.Commanding.{is_space, IsWord, ends_word, AreWords, IsEither, IsSize, IsCommand, LacksName, LacksSize, CommandsAreRead}
use Rattle.gm_laws.proofs.Written.{number_read, number_written}

-- ---- words

skipped : (gap rest : List ℕ) → list_all is_space gap ≡ true → words_of (gap ++ rest) ≡ words_of rest
skipped [] rest e = refl
skipped (b ∷ gap) rest e = let parts = and_parts (is_space b) (list_all is_space gap) e in rw parts.0 (skipped gap rest parts.1)

no_words : (line : List ℕ) → list_all is_space line ≡ true → words_of line ≡ []
no_words [] e = refl
no_words (b ∷ line) e = let parts = and_parts (is_space b) (list_all is_space line) e in rw parts.0 (no_words line parts.1)

ended : (b : ℕ) (rest : List ℕ) → ends_word rest ≡ true → words_with b rest (words_of rest) ≡ (b ∷ []) ∷ words_of rest
ended b [] e = refl
ended b (c ∷ rest) e = ap (λ t. cond t ((b ∷ []) ∷ words_of (c ∷ rest)) (with_head b (words_of (c ∷ rest)))) e

word_first : (b : ℕ) (word rest : List ℕ) → list_any is_space (b ∷ word) ≡ false → ends_word rest ≡ true → words_of (b ∷ word ++ rest) ≡ (b ∷ word) ∷ words_of rest
word_first b [] rest lacks e = rw (or_parts (is_space b) false lacks).0 (ended b rest e)
word_first b (c ∷ word) rest lacks e =
    let parts = or_parts (is_space b) (list_any is_space (c ∷ word)) lacks in
    let next = or_parts (is_space c) (list_any is_space word) parts.1 in
    let rest_is = word_first c word rest parts.1 e in
    ap (λ t. cond t (words_of (c ∷ word ++ rest)) (words_with b (c ∷ word ++ rest) (words_of (c ∷ word ++ rest)))) parts.0
    ∙ (ap (λ t. cond t ((b ∷ []) ∷ words_of (c ∷ word ++ rest)) (with_head b (words_of (c ∷ word ++ rest)))) next.0 ∙ ap (with_head b) rest_is)

a_word : (word rest : List ℕ) → IsWord word → ends_word rest ≡ true → words_of (word ++ rest) ≡ word ∷ words_of rest
a_word [] rest is e = absurd (is.0 refl)
a_word (b ∷ word) rest is e = word_first b word rest is.1 e

words_are : (line : List ℕ) (words : List (List ℕ)) → AreWords line words → words_of line ≡ words
words_are line [] e = no_words line e
words_are line (word ∷ words) e =
    ap words_of e.2 ∙ (skipped e.0 (word ++ e.1) e.3 ∙ (a_word word e.1 e.4 e.5 ∙ ap (λ (l : List (List ℕ)). word ∷ l) (words_are e.1 words e.6)))

one_more : (b : ℕ) (line : List ℕ) → is_space b ≡ false → ends_word line ≡ false → (words : List (List ℕ)) → AreWords line words → (words : List (List ℕ)) × AreWords (b ∷ line) words
one_more b [] letter inside words e = absurd cc
one_more b (c ∷ line) letter inside [] e = absurd (both_ways (is_space c) inside (and_parts (is_space c) (list_all is_space line) e).0)
one_more b (c ∷ line) letter inside (word ∷ words) ([], rest, is, gap, a, ends, more) =
    ((b ∷ word) ∷ words, ([], rest, ap (λ (l : List ℕ). b ∷ l) is, refl, ((λ none. let bad : ⊥ = cc in bad), or_from (is_space b) (list_any is_space word) letter a.1), ends, more))
one_more b (c ∷ line) letter inside (word ∷ words) (g ∷ gap, rest, is, spaces, a, ends, more) =
    absurd (both_ways (is_space c) inside (subst (λ x. is_space x ≡ true) (let same : g ≡ c = cc in same) (and_parts (is_space g) (list_all is_space gap) spaces).0))

space_more : (b : ℕ) (line : List ℕ) → is_space b ≡ true → (words : List (List ℕ)) → AreWords line words → AreWords (b ∷ line) words
space_more b line space [] e = and_from (is_space b) (list_all is_space line) space e
space_more b line space (word ∷ words) (gap, rest, is, spaces, a, ends, more) =
    (b ∷ gap, rest, ap (λ (l : List ℕ). b ∷ l) is, and_from (is_space b) (list_all is_space gap) space spaces, a, ends, more)

worded : (line : List ℕ) → (words : List (List ℕ)) × AreWords line words
worded [] = ([], refl)
worded (b ∷ line) = by (is_space b) (ends_word line) refl refl (worded line)
  where
    by : (t u : Bool) → is_space b ≡ t → ends_word line ≡ u → (words : List (List ℕ)) × AreWords line words → (words : List (List ℕ)) × AreWords (b ∷ line) words
    by true u space ends (words, e) = (words, space_more b line space words e)
    by false true letter ends (words, e) = ((b ∷ []) ∷ words, ([], line, refl, refl, ((λ none. let bad : ⊥ = cc in bad), or_from (is_space b) false letter refl), ends, e))
    by false false letter inside (words, e) = one_more b line letter inside words e

-- ---- letters

lowered : (word small large : List ℕ) → map to_ascii_lowercase small ≡ small → map to_ascii_lowercase large ≡ small → IsEither word small large → map to_ascii_lowercase word ≡ small
lowered [] [] [] s l e = refl
lowered (b ∷ word) (x ∷ small) (y ∷ large) s l e = ap₂ (λ (c : ℕ) (cs : List ℕ). c ∷ cs) (head e.0) (lowered word small large (let same = s in cc) (let same = l in cc) e.1)
  where
    head : (b ≡ x) ⊎ (b ≡ y) → to_ascii_lowercase b ≡ x
    head (inl is) = ap to_ascii_lowercase is ∙ (let same = s in cc)
    head (inr is) = ap to_ascii_lowercase is ∙ (let same = l in cc)
lowered [] [] (y ∷ large) s l e = absurd e
lowered [] (x ∷ small) large s l e = absurd e
lowered (b ∷ word) [] large s l e = absurd e
lowered (b ∷ word) (x ∷ small) [] s l e = absurd e

a_letter : (b x y : ℕ) → y + 32 ≡ x → to_ascii_lowercase b ≡ x → (b ≡ x) ⊎ (b ≡ y)
a_letter b x y pair e = by (nat_lt b 65) (nat_lt b 91) e
  where
    by : (t u : Bool) → cond t b (cond u (b + 32) b) ≡ x → (b ≡ x) ⊎ (b ≡ y)
    by true u e = inl e
    by false true e = inr (omega (arith, pair, e))
    by false false e = inl e

either : (word small large : List ℕ) → map (λ y. y + 32) large ≡ small → map to_ascii_lowercase word ≡ small → IsEither word small large
either [] [] [] pairs e = tt
either (b ∷ word) (x ∷ small) (y ∷ large) pairs e =
    (a_letter b x y (let same = pairs in cc) (let same = e in cc), either word small large (let same = pairs in cc) (let same = e in cc))
either [] [] (y ∷ large) pairs e = absurd (let same = pairs in cc)
either [] (x ∷ small) large pairs e = absurd (let same = e in cc)
either (b ∷ word) [] large pairs e = absurd (let same = e in cc)
either (b ∷ word) (x ∷ small) [] pairs e = absurd (let same = pairs in cc)

meant_so : (word small large : List ℕ) → map (λ y. y + 32) large ≡ small → is_word word small ≡ true → IsEither word small large
meant_so word small large pairs e = either word small large pairs ((bytes_eq-Decides (map to_ascii_lowercase word) small).0 e)

abbrev Low : List ℕ → List ℕ → Type 0
Low word small = map to_ascii_lowercase word ≡ small

status_low : (word : List ℕ) → IsEither word (codes "status") (codes "STATUS") → Low word (codes "status")
status_low word e = lowered word (codes "status") (codes "STATUS") refl refl e

workers_low : (word : List ℕ) → IsEither word (codes "workers") (codes "WORKERS") → Low word (codes "workers")
workers_low word e = lowered word (codes "workers") (codes "WORKERS") refl refl e

version_low : (word : List ℕ) → IsEither word (codes "version") (codes "VERSION") → Low word (codes "version")
version_low word e = lowered word (codes "version") (codes "VERSION") refl refl e

maxqueue_low : (word : List ℕ) → IsEither word (codes "maxqueue") (codes "MAXQUEUE") → Low word (codes "maxqueue")
maxqueue_low word e = lowered word (codes "maxqueue") (codes "MAXQUEUE") refl refl e

shutdown_low : (word : List ℕ) → IsEither word (codes "shutdown") (codes "SHUTDOWN") → Low word (codes "shutdown")
shutdown_low word e = lowered word (codes "shutdown") (codes "SHUTDOWN") refl refl e

graceful_low : (word : List ℕ) → IsEither word (codes "graceful") (codes "GRACEFUL") → Low word (codes "graceful")
graceful_low word e = lowered word (codes "graceful") (codes "GRACEFUL") refl refl e

-- ---- sizes

no_minus : (c : ℕ) → is_ascii_digit c ≡ true → (c == 45) ≡ false
no_minus c digital = grind (arith, nat_tests)

size_read : (text : List ℕ) (size : ℕ) → IsSize text size → size_of text ≡ Some size
size_read [] size (inl is) = absurd (let some = is.some in omega arith)
size_read (b ∷ bytes) size (inl is) = rw (no_minus b (and_parts (is_ascii_digit b) (list_all is_ascii_digit bytes) is.digital).0) (number_read (b ∷ bytes) size is)
size_read text size (inr (digits, n, is, number_is, none)) = ap size_of is ∙ (ap negative (number_read digits n number_is) ∙ ap Some (sym none))

size_meant : (text : List ℕ) (size : ℕ) → size_of text ≡ Some size → IsSize text size
size_meant [] size e = absurd cc
size_meant (b ∷ bytes) size e = by (b == 45) (decimal_below (2 ^ 32) 10 bytes) refl refl e
  where
    by : (t : Bool) (o : Option ℕ) → (b == 45) ≡ t → decimal_below (2 ^ 32) 10 bytes ≡ o → cond t (negative o) (decimal_below (2 ^ 32) 10 (b ∷ bytes)) ≡ Some size → IsSize (b ∷ bytes) size
    by true None minus is e = absurd cc
    by true (Some n) minus is e = inr (bytes, n, ap (λ (x : ℕ). x ∷ bytes) (eqb-true b 45 minus), number_written bytes n is, (let zero : size ≡ 0 = cc in zero))
    by false o minus is e = inl (number_written (b ∷ bytes) size e)

-- ---- commands

ok_is : {E : Type 0} (a b : Commanded) → (let first : Result Commanded E = Ok a in first) ≡ Ok b → a ≡ b
ok_is a b e = cc

read_words : (words : List (List ℕ)) (command : Commanded) → IsCommand words command → command_of_words words ≡ Ok command
read_words (word ∷ words) Status e = let low = status_low word e in rw low refl
read_words (word ∷ words) Workers e = let low = workers_low word e in rw low refl
read_words (word ∷ words) Version e = let low = version_low word e in rw low refl
read_words (word ∷ name ∷ []) (MaxQueue f size) e = let low = maxqueue_low word e.0 in rw low (ap₂ (λ (g : List ℕ) (n : ℕ). Ok (MaxQueue g n)) e.1 (sym e.2))
read_words (word ∷ name ∷ text ∷ []) (MaxQueue f size) e =
    let low = maxqueue_low word e.0 in rw low (ap (sized name) (size_read text size e.2) ∙ ap (λ (g : List ℕ). Ok (MaxQueue g size)) e.1)
read_words (word ∷ []) (Shutdown false) e = let low = shutdown_low word e in rw low refl
read_words (word ∷ how ∷ []) (Shutdown true) e = let low = shutdown_low word e.0 in let slow = graceful_low how e.1 in rw (low, slow) refl
read_words words command e = absurd e

-- the words behind `maxqueue` and `shutdown`
maxqueue_meant : (word : List ℕ) (words : List (List ℕ)) (command : Commanded) → IsEither word (codes "maxqueue") (codes "MAXQUEUE") → maxqueue_of words ≡ Ok command → IsCommand (word ∷ words) command
maxqueue_meant word [] command is e = absurd cc
maxqueue_meant word (name ∷ []) command is e = subst (IsCommand (word ∷ name ∷ [])) (ok_is (MaxQueue name 0) command e) (is, refl, refl)
maxqueue_meant word (name ∷ text ∷ []) command is e = by (size_of text) refl e
  where
    by : (o : Option ℕ) → size_of text ≡ o → sized name o ≡ Ok command → IsCommand (word ∷ name ∷ text ∷ []) command
    by None none e = absurd cc
    by (Some size) some e = subst (IsCommand (word ∷ name ∷ text ∷ [])) (ok_is (MaxQueue name size) command e) (is, refl, size_meant text size some)
maxqueue_meant word (name ∷ text ∷ more ∷ words) command is e = absurd cc

shutdown_meant : (word : List ℕ) (words : List (List ℕ)) (command : Commanded) → IsEither word (codes "shutdown") (codes "SHUTDOWN") → shutdown_of words ≡ Ok command → IsCommand (word ∷ words) command
shutdown_meant word [] command is e = subst (IsCommand (word ∷ [])) (ok_is (Shutdown false) command e) is
shutdown_meant word (how ∷ []) command is e = by (is_word how (codes "graceful")) refl e
  where
    by : (t : Bool) → is_word how (codes "graceful") ≡ t → cond t (Ok (Shutdown true)) (Err UnknownCommand) ≡ Ok command → IsCommand (word ∷ how ∷ []) command
    by true graceful e = subst (IsCommand (word ∷ how ∷ [])) (ok_is (Shutdown true) command e) (is, meant_so how (codes "graceful") (codes "GRACEFUL") refl graceful)
    by false other e = absurd cc
shutdown_meant word (how ∷ more ∷ words) command is e = absurd cc

meant_words : (words : List (List ℕ)) (command : Commanded) → command_of_words words ≡ Ok command → IsCommand words command
meant_words [] command e = absurd cc
meant_words (word ∷ words) command e =
    by (is_word word (codes "status")) (is_word word (codes "workers")) (is_word word (codes "maxqueue")) (is_word word (codes "version")) (is_word word (codes "shutdown")) refl refl refl refl refl e
  where
    by : (s w m v d : Bool) → is_word word (codes "status") ≡ s → is_word word (codes "workers") ≡ w → is_word word (codes "maxqueue") ≡ m → is_word word (codes "version") ≡ v → is_word word (codes "shutdown") ≡ d
        → cond s (Ok Status) (cond w (Ok Workers) (cond m (maxqueue_of words) (cond v (Ok Version) (cond d (shutdown_of words) (Err UnknownCommand))))) ≡ Ok command → IsCommand (word ∷ words) command
    by true w m v d is is_w is_m is_v is_d e = subst (IsCommand (word ∷ words)) (ok_is Status command e) (meant_so word (codes "status") (codes "STATUS") refl is)
    by false true m v d is_s is is_m is_v is_d e = subst (IsCommand (word ∷ words)) (ok_is Workers command e) (meant_so word (codes "workers") (codes "WORKERS") refl is)
    by false false true v d is_s is_w is is_v is_d e = maxqueue_meant word words command (meant_so word (codes "maxqueue") (codes "MAXQUEUE") refl is) e
    by false false false true d is_s is_w is_m is is_d e = subst (IsCommand (word ∷ words)) (ok_is Version command e) (meant_so word (codes "version") (codes "VERSION") refl is)
    by false false false false true is_s is_w is_m is_v is e = shutdown_meant word words command (meant_so word (codes "shutdown") (codes "SHUTDOWN") refl is) e
    by false false false false false is_s is_w is_m is_v is_d e = absurd cc

-- ---- what is no command

no_name : (words : List (List ℕ)) → LacksName words → command_of_words words ≡ Err MissingName
no_name (word ∷ []) e = let low = maxqueue_low word e in rw low refl
no_name words e = absurd e

no_size : (words : List (List ℕ)) → LacksSize words → command_of_words words ≡ Err BadSize
no_size (word ∷ name ∷ text ∷ []) e = let low = maxqueue_low word e.0 in rw low (by (size_of text) refl)
  where
    by : (o : Option ℕ) → size_of text ≡ o → sized name o ≡ Err BadSize
    by None none = refl
    by (Some size) some = absurd (e.1 size (size_meant text size some))
no_size (word ∷ name ∷ text ∷ more ∷ words) e = let low = maxqueue_low word e in rw low refl
no_size words e = absurd e

abbrev IsNone : List (List ℕ) → Type 0
IsNone words = (LacksName words ⊎ LacksSize words → ⊥) × ((command : Commanded) → IsCommand words command → ⊥)

unknown_maxqueue : (word : List ℕ) (words : List (List ℕ)) → IsEither word (codes "maxqueue") (codes "MAXQUEUE") → IsNone (word ∷ words) → maxqueue_of words ≡ Err UnknownCommand
unknown_maxqueue word [] is none = absurd (none.0 (inl is))
unknown_maxqueue word (name ∷ []) is none = absurd (none.1 (MaxQueue name 0) (is, refl, refl))
unknown_maxqueue word (name ∷ text ∷ []) is none = by (size_of text) refl
  where
    by : (o : Option ℕ) → size_of text ≡ o → sized name o ≡ Err UnknownCommand
    by None nothing = absurd (none.0 (inr (is, λ size a. let bad : Some size ≡ None = sym (size_read text size a) ∙ nothing in let worse : ⊥ = cc in worse)))
    by (Some size) some = absurd (none.1 (MaxQueue name size) (is, refl, size_meant text size some))
unknown_maxqueue word (name ∷ text ∷ more ∷ words) is none = absurd (none.0 (inr is))

unknown_shutdown : (word : List ℕ) (words : List (List ℕ)) → IsEither word (codes "shutdown") (codes "SHUTDOWN") → IsNone (word ∷ words) → shutdown_of words ≡ Err UnknownCommand
unknown_shutdown word [] is none = absurd (none.1 (Shutdown false) is)
unknown_shutdown word (how ∷ []) is none = by (is_word how (codes "graceful")) refl
  where
    by : (t : Bool) → is_word how (codes "graceful") ≡ t → cond t (Ok (Shutdown true)) (Err UnknownCommand) ≡ Err UnknownCommand
    by true graceful = absurd (none.1 (Shutdown true) (is, meant_so how (codes "graceful") (codes "GRACEFUL") refl graceful))
    by false other = refl
unknown_shutdown word (how ∷ more ∷ words) is none = refl

unknown_words : (words : List (List ℕ)) → IsNone words → command_of_words words ≡ Err UnknownCommand
unknown_words [] none = refl
unknown_words (word ∷ words) none =
    by (is_word word (codes "status")) (is_word word (codes "workers")) (is_word word (codes "maxqueue")) (is_word word (codes "version")) (is_word word (codes "shutdown")) refl refl refl refl refl
  where
    by : (s w m v d : Bool) → is_word word (codes "status") ≡ s → is_word word (codes "workers") ≡ w → is_word word (codes "maxqueue") ≡ m → is_word word (codes "version") ≡ v → is_word word (codes "shutdown") ≡ d
        → cond s (Ok Status) (cond w (Ok Workers) (cond m (maxqueue_of words) (cond v (Ok Version) (cond d (shutdown_of words) (Err UnknownCommand))))) ≡ Err UnknownCommand
    by true w m v d is is_w is_m is_v is_d = absurd (none.1 Status (meant_so word (codes "status") (codes "STATUS") refl is))
    by false true m v d is_s is is_m is_v is_d = absurd (none.1 Workers (meant_so word (codes "workers") (codes "WORKERS") refl is))
    by false false true v d is_s is_w is is_v is_d = unknown_maxqueue word words (meant_so word (codes "maxqueue") (codes "MAXQUEUE") refl is) none
    by false false false true d is_s is_w is_m is is_d = absurd (none.1 Version (meant_so word (codes "version") (codes "VERSION") refl is))
    by false false false false true is_s is_w is_m is_v is = unknown_shutdown word words (meant_so word (codes "shutdown") (codes "SHUTDOWN") refl is) none
    by false false false false false is_s is_w is_m is_v is_d = refl

commanded : (line : List ℕ) (words : List (List ℕ)) → AreWords line words → command_of line ≡ command_of_words words
commanded line words e = ap command_of_words (words_are line words e)

pub commands_read : CommandsAreRead
commands_read = record {
  worded = worded;
  read = λ line words command are e. commanded line words are ∙ read_words words command e;
  meant = λ line words command are e. meant_words words command (sym (commanded line words are) ∙ e);
  no_name = λ line words are e. commanded line words are ∙ no_name words e;
  no_size = λ line words are e. commanded line words are ∙ no_size words e;
  unknown = λ line words are lacks none. commanded line words are ∙ unknown_words words (lacks, none);
}
