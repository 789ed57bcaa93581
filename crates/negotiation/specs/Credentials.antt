-- Name and password (document 01, 'Negotiation'): what an authentication protocol is handed.
use Rattle.std.specs.Prelude.{ℕ, ◌-◌, Bool, cond, ◌&&◌, List, [], ◌++◌, length, take, drop, replicate, nat_le}
use Rattle.negotiation.specs.declared.credentials.Credentials.{Credentials}

-- how many bytes the two may have together
abbrev pub max_credentials : ℕ
max_credentials = 120

abbrev pub fits_credentials : ℕ → ℕ → Bool
fits_credentials n m = nat_le n max_credentials && nat_le m (max_credentials - n)

-- lengths that do not fit count as none
abbrev pub counted_len : Credentials → ℕ → ℕ
counted_len c n = cond (fits_credentials c.username_len c.password_len) n 0

abbrev pub name_len : Credentials → ℕ
name_len c = counted_len c c.username_len

abbrev pub password_len : Credentials → ℕ
password_len c = counted_len c c.password_len

abbrev pub name_of : Credentials → List ℕ
name_of c = take (name_len c) c.bytes

abbrev pub password_of : Credentials → List ℕ
password_of c = take (password_len c) (drop (name_len c) c.bytes)

-- one behind the other, with zeros behind them
abbrev pub credentials_with : List ℕ → List ℕ → Credentials
credentials_with name password =
    record {
      username_len = length name;
      password_len = length password;
      bytes = (name ++ password) ++ replicate (max_credentials - length (name ++ password)) 0;
    }

-- where the two are too long together, both are left out
abbrev pub fresh_credentials : List ℕ → List ℕ → Credentials
fresh_credentials name password = cond (fits_credentials (length name) (length password)) (credentials_with name password) (credentials_with [] [])
