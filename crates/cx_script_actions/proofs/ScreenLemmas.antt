-- A screen has the form of a page.
use Rattle.std.proofs.Common.{ℕ, List}
use Rattle.cx_service.specs.Screen.{IsScreen}
use Rattle.cx_base.specs.Pages.{IsPage}

pub screen_is_page : (cells : List (List ℕ)) → IsScreen cells → IsPage cells
unfolding IsScreen IsPage
screen_is_page cells h = h
