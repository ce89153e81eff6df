-- Words that the laws of the module `laws` use.
pub mod Words
pub mod Fit
