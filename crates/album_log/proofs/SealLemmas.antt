-- A sealed line gives back what it was (`body_of_sealed`), and no other digits are a seal (`other_digits`).
use Rattle.std.proofs.Common.{◌≡◌, ◌≢◌, ℕ, ◌+◌, ◌-◌, ◌*◌, List, [], ◌∷◌, ◌++◌, length, take, drop, refl, sym, ◌∙◌, ap, arith}
use Rattle.std.proofs.lemmas.List.{length-append, take_at, drop_at, append_cancel_left, append_cancel_right}
use Rattle.std.specs.Int.{w64, to_be_bytes}
use Rattle.hex.specs.Hex.{encode_with}
use Rattle.sqlite_disk.specs.Digest.{digest}
use Rattle.album_log.specs.Seals.{sealed, seal_of, digits_of, opening, closing}

length_encoded : (table bytes : List ℕ) → length (encode_with table bytes) ≡ 2 * length bytes
unfolding encode_with
length_encoded table [] = refl
length_encoded table (b ∷ rest) = omega (arith, length_encoded table rest)

pub length_of_digits : (body : List ℕ) → length (digits_of body) ≡ 16
unfolding digits_of
length_of_digits body = length_encoded _ (to_be_bytes w64 (digest 0 body))

pub length_of_seal : (body : List ℕ) → length (seal_of body) ≡ 26
length_of_seal body = omega (arith, length-append (digits_of body) closing, length_of_digits body)

-- the front of a line that ends with a seal
pub front_of_line : (line body seal : List ℕ) → line ≡ body ++ seal → length seal ≡ 26 → take (length line - 26) line ≡ body
front_of_line line body seal is long =
    let n : length line ≡ length body + 26 = ap length is ∙ length-append body seal ∙ ap (λ (m : ℕ). length body + m) long in
    let front : length line - 26 ≡ length body = omega arith in
    ap (λ (m : ℕ). take m line) front ∙ ap (take (length body)) is ∙ take_at body seal (length body) refl

pub length_of_sealed : (line body : List ℕ) → line ≡ sealed body → length line ≡ length body + 26
length_of_sealed line body is =
    ap length is ∙ length-append body (seal_of body) ∙ ap (λ (m : ℕ). length body + m) (length_of_seal body)

-- a sealed line ends with the seal of its front
pub back_of_sealed :
    (line body front back seal : List ℕ)
    → line ≡ sealed body
    → front ≡ take (length line - 26) line
    → back ≡ drop (length line - 26) line
    → seal ≡ seal_of front
    → back ≡ seal
back_of_sealed line body front back seal is f b s =
    let n : length line - 26 ≡ length body = omega (arith, length_of_sealed line body is) in
    let body_is : front ≡ body = f ∙ front_of_line line body (seal_of body) is (length_of_seal body) in
    let back_is : back ≡ seal_of body =
    b ∙ ap (λ (m : ℕ). drop m line) n ∙ ap (drop (length body)) is ∙ drop_at body (seal_of body) (length body) refl in
    back_is ∙ ap seal_of (sym body_is) ∙ sym s

-- a line with other digits does not end with the seal of its front
pub other_digits :
    (line body digits front back seal : List ℕ)
    → line ≡ body ++ (opening ++ (digits ++ closing))
    → length digits ≡ 16
    → digits ≢ digits_of body
    → front ≡ take (length line - 26) line
    → back ≡ drop (length line - 26) line
    → seal ≡ seal_of front
    → back ≢ seal
other_digits line body digits front back seal is long differs f b s same =
    let tail = opening ++ (digits ++ closing) in
    let tail_long : length tail ≡ 26 = omega (arith, length-append digits closing) in
    let body_is : front ≡ body = f ∙ front_of_line line body tail is tail_long in
    let n : length line - 26 ≡ length body = omega (arith, ap length is, length-append body tail) in
    let back_is : back ≡ tail = b ∙ ap (λ (m : ℕ). drop m line) n ∙ ap (drop (length body)) is ∙ drop_at body tail (length body) refl in
    let seals : opening ++ (digits ++ closing) ≡ opening ++ (digits_of body ++ closing) = sym back_is ∙ same ∙ s ∙ ap seal_of body_is in
    differs (append_cancel_right digits (digits_of body) closing (append_cancel_left opening (digits ++ closing) (digits_of body ++ closing) seals))
