-- What a post must be like to be read back.
use Rattle.std.specs.Prelude.{ℕ, List, ◌≡◌, ◌≤◌, ◌+◌, IsUtf8, length, slice_index, true}
use Rattle.std.specs.List.{list_all}
use Rattle.httparse.specs.Grammar.{is_uri_byte, is_value_byte}

-- The path begins with a slash and is a request target, the host and the action are values of fields, the head has at most
-- 8,192 bytes, and the body at most 65,536. `post` is the whole.
pub record CanBeRead (path host action body post : List ℕ) : Type 0 where
  pub slash : slice_index path 0 ≡ 47
  pub target : list_all is_uri_byte path ≡ true
  pub text : IsUtf8 path
  pub name : list_all is_value_byte host ≡ true
  pub value : list_all is_value_byte action ≡ true
  pub fits : length post ≤ 8192 + length body
  pub most : length body ≤ 65536
