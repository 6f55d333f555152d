-- What is read of a text is the principal that is spelled by it.
use Rattle.std.proofs.Common.{◌≡◌, ℕ, List, ◌++◌, codes, Bool, true, false, cond, bytes_eq, get_or, Option, Some, None, option_map, refl, sym, ◌∙◌, ap, subst, arith, append_assoc}
use Rattle.std.proofs.lemmas.Slice.Eq.{bytes_eq-Decides}
use Rattle.album_lists.specs.Whos.{IsUserText, user_of}
use Rattle.album_lists.proofs.Ends.{one_end}
use Rattle.album_lists.proofs.Spelling.{spelled_user, user_spelled}
use Rattle.album_eval.specs.Matching.{IsPrincipalText, principal_of}
use Rattle.album_eval.specs.declared.facts.Principal.{Principal}
use Rattle.album_eval.specs.declared.facts.Principal.TheVariants.{Anonymous, User, Root}

-- a user's text isn't Anonymous's: it ends in another letter
user_not_anonymous : (name text : List ℕ) → IsUserText name text → bytes_eq text (codes "ANONYMOUS@") ≡ false
user_not_anonymous name text is = go (bytes_eq text (codes "ANONYMOUS@")) refl
  where
    go : (b : Bool) → bytes_eq text (codes "ANONYMOUS@") ≡ b → b ≡ false
    go false e = refl
    go true e =
        let two : codes "s" ≡ codes "@" = one_end (name ++ codes "@user") (codes "ANONYMOUS") (codes "s") (codes "@") text refl (is.1 ∙ sym (append_assoc name (codes "@user") (codes "s"))) ((bytes_eq-Decides text (codes "ANONYMOUS@")).0 e) in
        let first : 115 ≡ 64 = ap (λ (t : List ℕ). get_or t 0 0) two in
        absurd (omega (arith, first))

pub spelled_principal : (p : Principal) (text : List ℕ) → IsPrincipalText p text → principal_of text ≡ Some p
unfolding principal_of
spelled_principal Anonymous text is = rw is refl
spelled_principal (User name) text is = rw (user_not_anonymous name text is, spelled_user name text is) refl
spelled_principal (Root name) text is = absurd is

pub principal_spelled : (p : Principal) (text : List ℕ) → principal_of text ≡ Some p → IsPrincipalText p text
unfolding principal_of
principal_spelled p text = go (bytes_eq text (codes "ANONYMOUS@")) refl (user_of text) refl
  where
    go : (b : Bool) → bytes_eq text (codes "ANONYMOUS@") ≡ b → (u : Option (List ℕ)) → user_of text ≡ u → cond b (Some Anonymous) (option_map User u) ≡ Some p → IsPrincipalText p text
    go true at u user e = let same : Anonymous ≡ p = cc in subst (λ (q : Principal). IsPrincipalText q text) same ((bytes_eq-Decides text (codes "ANONYMOUS@")).0 at)
    go false at (Some name) user e = let same : User name ≡ p = cc in subst (λ (q : Principal). IsPrincipalText q text) same (user_spelled name text user)
    go false at None user e = absurd (cc)
