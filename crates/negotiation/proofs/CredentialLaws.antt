-- Laws of the credentials: what fits, what a fresh record holds, and how much any record does.
-- Assumes nothing.
use Rattle.std.proofs.Common.{◌≡◌, ℕ, ◌+◌, ◌-◌, ◌<◌, ◌≤◌, true, false, leb, List, ◌++◌, length, replicate, refl, ap, ◌∙◌, append_assoc, zero-add, arith, lit≤, length-append, length-take, le-leb, leb-false, leb-true}
use lib.ListN.{length-replicate}
use lib.Seq.{sets, take-append_seam, drop-append_seam}
use Rattle.laws.proofs.Cases.{by_test, both}
use Rattle.laws.proofs.Lists.{drop-replicate}
use Rattle.laws.proofs.Stores.{sets_append, sets_front}
use Rattle.negotiation.specs.declared.credentials.Credentials.{Credentials}
use Rattle.negotiation.specs.Credentials.{max_credentials, fits_credentials, name_len, password_len, name_of, password_of, credentials_with}

pub fits_sum : (n m : ℕ) → fits_credentials n m ≡ true → n + m ≤ max_credentials
fits_sum n m e =
    let t = both (leb n max_credentials) (leb m (max_credentials - n)) e in
    omega (arith, leb-true n max_credentials t.0, leb-true m (max_credentials - n) t.1)

pub sum_fits : (n m : ℕ) → n + m ≤ max_credentials → fits_credentials n m ≡ true
sum_fits n m h = rw (le-leb n max_credentials (omega arith), le-leb m (max_credentials - n) (omega arith)) refl

pub unfit_sum : (n m : ℕ) → fits_credentials n m ≡ false → max_credentials < n + m
unfit_sum n m e =
    by_test (leb n max_credentials)
    (λ t. omega (arith, leb-true n max_credentials t, leb-false m (max_credentials - n) (rw t at e)))
    (λ t. omega (arith, leb-false n max_credentials t))

-- name and password one behind the other in an array of zeros
pub placed : (name password : List ℕ) → length name + length password ≤ max_credentials
    → sets (sets (replicate max_credentials 0) 0 name) (length name) password
    ≡ (name ++ password) ++ replicate (max_credentials - length (name ++ password)) 0
placed name password h =
    let l = name ++ password in
    let k : length l ≤ max_credentials = rw length-append h in
    let e : length l + (max_credentials - length l) ≡ max_credentials = omega arith in
    rw zero-add at (sets_append name password (replicate max_credentials 0) 0)
    ∙ sets_front l (replicate max_credentials 0) (rw length-replicate k)
    ∙ ap (λ (r : List ℕ). l ++ r) (rw e at (drop-replicate {A = ℕ} (length l) (max_credentials - length l) 0))

pub credentials_fit : (c : Credentials) → name_len c + password_len c ≤ max_credentials
credentials_fit c =
    let n = c.username_len in
    let m = c.password_len in
    by_test (fits_credentials n m) (λ e. rw e (fits_sum n m e)) (λ e. rw e (lit≤ tt))

-- whatever the record holds
pub credentials_short : (c : Credentials) → length (name_of c) + length (password_of c) ≤ max_credentials
credentials_short c =
    let e : length (name_of c) ≤ name_len c = rw length-take (omega arith) in
    let f : length (password_of c) ≤ password_len c = rw length-take (omega arith) in
    omega (arith, credentials_fit c)

-- a fresh record holds what it was given
pub credentials_held : (name password : List ℕ) → length name + length password ≤ max_credentials
    → (name_of (credentials_with name password) ≡ name) × (password_of (credentials_with name password) ≡ password)
credentials_held name password h =
    let zeros : List ℕ = replicate (max_credentials - length (name ++ password)) 0 in
    let b : (name ++ password) ++ zeros ≡ name ++ (password ++ zeros) = append_assoc name password zeros in
    let e = sum_fits (length name) (length password) h in
    (rw (e, b, take-append_seam) refl, rw (e, b, drop-append_seam, take-append_seam) refl)
