-- What a call needs of the line that asks for it.
use Rattle.std.specs.Prelude.{ℕ, ◌≤◌, ◌≡◌, true, List, length}
use Rattle.lists.specs.Lists.{all}
use Rattle.model.specs.Driving.{is_digit, bytes_of}
use Rattle.frame.specs.declared.Request.{Request}
use Rattle.frame.specs.Request.{frame_request}
use Rattle.calls.specs.Arrays.{most_read}

-- the line is a frame of digits with this request; the bytes that it says have room in the lent buffer
pub record Framed (request : Request) (line : List ℕ) : Type 0 where
  pub digits : all is_digit line ≡ true
  pub short : length (bytes_of line) ≤ most_read
  pub asks : request ≡ frame_request (bytes_of line)
